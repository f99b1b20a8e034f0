-- `put_calls` meets its contract: a loop over the calls from the right.
use native.Mathlib.Omega.{arith}
use Rattle.rides.proofs.BoundLaws.{filled_none, filled-same}
use Rattle.rides.proofs.bounds.put_calls.Goals as goal

pub loop-j-init : goal.loop-j-init
loop-j-init c = filled_none

pub put_call-requires : goal.put_call-requires
put_call-requires c = (omega arith, filled-same (omega arith) c.loop-j.invariant)

pub returns : goal.returns
returns c = filled-same (omega arith) c.loop-j.invariant
