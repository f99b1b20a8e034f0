-- `block_least` meets its contract: a loop over the calls of the block.
use Rattle.std.proofs.Common.{arith}
use Rattle.rides.proofs.ReachLaws.{least_start, least-joined, least-apart, least-fewer}
use Rattle.rides.proofs.joined.block_least.Goals as goal
use Rattle.rides.proofs.joined.block_least.Goals.{then-can_board, else-can_board}

pub loop-c-init : goal.loop-c-init
loop-c-init c = least_start

pub loop-c-preserved : goal.loop-c-preserved
loop-c-preserved c =
    elim c.if-can_board.branch [
      | then-can_board w ↦ rw w.t-is (least-joined w.min-t.ensures c.loop-c.invariant)
      | else-can_board w ↦ rw w.t-is (least-apart c.can_board.ensures w.if-can_board.false c.loop-c.invariant)
    ]

pub returns : goal.returns
returns c = least-fewer (omega arith) c.loop-c.invariant
