-- `put_boards` meets its contract: a loop over the calls from the right.
use native.Mathlib.Omega.{arith}
use Rattle.rides.proofs.ReachLaws.{none_yet, put-left, each_same}
use Rattle.rides.proofs.reach.put_boards.Goals as goal

pub loop-j-init : goal.loop-j-init
loop-j-init c = none_yet _ _ _

pub board_time-t-requires : goal.board_time-t-requires
board_time-t-requires c = (omega arith, each_same _ (omega arith) c.loop-j.invariant)

pub loop-j-preserved : goal.loop-j-preserved
loop-j-preserved c = put-left _ (omega arith) (omega arith) c.board_time-t.ensures c.loop-j.invariant

pub returns : goal.returns
returns c = each_same _ (omega arith) c.loop-j.invariant
