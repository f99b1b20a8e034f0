-- `block_before` meets its contract: a loop over the calls of the block.
use Rattle.std.proofs.Common.{refl, arith, ◌≤◌, ◌<◌}
use Rattle.rides.specs.Loops.{over_calls}
use Rattle.rides.specs.Reach.{block_end}
use Rattle.rides.proofs.OverLaws.{calls-out, rest-out}
use Rattle.rides.proofs.RestLaws.{rest-same, calls-turn, calls-none}
use Rattle.rides.proofs.change.block_before.Goals as goal

pub loop-j-init : goal.loop-j-init
loop-j-init c = (rest-same refl, c.requires.2)

pub returns-then-over-t : goal.returns-then-over-t
unfolding over_calls
returns-then-over-t c =
    let i = c.loop-j.invariant in
    record {
      offered =
          rest-out (calls-out _ _ _ _ _ _ (omega arith) c.args.last.now.bounded.board c.if-over-t.true (omega arith) c.requires.1 i.1) i.0;
      over = i.1;
    }

pub board_before-over-requires : goal.board_before-over-requires
board_before-over-requires c = (omega (arith, c.loop-j-test.true), c.loop-j.invariant.1)

pub loop-j-preserved : goal.loop-j-preserved
loop-j-preserved c =
    let w = c.board_before-over.ensures in
    let h : c.loop-j.j < block_end c.args.last.now.lent.calls.n c.args.from =
    omega (arith, c.block_end-j-end.ensures, c.loop-j-test.true) in
    (calls-turn h c.loop-j.invariant.0 w.offered, w.over)

pub returns : goal.returns
unfolding over_calls
returns c =
    let h : block_end c.args.last.now.lent.calls.n c.args.from ≤ c.loop-j.j =
    omega (arith, c.block_end-j-end.ensures, c.loop-j-test.false) in
    record { offered = calls-none h c.loop-j.invariant.0; over = c.loop-j.invariant.1 }
