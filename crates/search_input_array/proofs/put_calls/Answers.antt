-- Call after call.
use native.Mathlib.Omega.{arith}
use Rattle.laws.proofs.Regions.{blocks-none, blocks_more, blocks-all}
use Rattle.search_input_array.proofs.put_calls.Goals as goal

pub loop-i-init : goal.loop-i-init
loop-i-init c = blocks-none 6 _ _

pub loop-i-preserved : goal.loop-i-preserved
loop-i-preserved c = blocks_more 6 _ _ c.loop-i.feed _ c.loop-i.i c.loop-i.invariant c.put_call.ensures

pub returns : goal.returns
returns c = blocks-all 6 _ _ c.loop-i.feed c.loop-i.i _ c.loop-i.invariant (omega arith)
