-- `rides_before` meets its contract: a loop over the blocks.
use Rattle.std.proofs.Common.{refl, arith}
use Rattle.rides.specs.Loops.{over_calls}
use Rattle.rides.specs.Reach.{BlockAt}
use Rattle.rides.proofs.OverLaws.{calls-out, rest-out}
use Rattle.rides.proofs.RestLaws.{rest-same, block-turn, calls-none}
use Rattle.rides.proofs.change.rides_before.Goals as goal

pub loop-b-init : goal.loop-b-init
loop-b-init c = (rest-same refl, c.requires.2)

pub returns-then-over-least : goal.returns-then-over-least
unfolding over_calls
returns-then-over-least c =
    let i = c.loop-b.invariant in
    record {
      offered =
          rest-out (calls-out _ _ _ _ _ _ (omega arith) c.args.last.now.bounded.board c.if-over-least.true (omega arith) c.requires.1 i.1) i.0;
      over = i.1;
    }

pub block_before-over-requires : goal.block_before-over-requires
unfolding BlockAt
block_before-over-requires c =
    (omega (arith, c.loop-b-test.true), c.requires.0.each _ (omega arith) c.loop-b-test.true, c.loop-b.invariant.1)

pub loop-b-preserved : goal.loop-b-preserved
unfolding over_calls
loop-b-preserved c =
    let w = c.block_before-over.ensures in
    (block-turn _ _ _ _ (omega arith) c.loop-b.invariant.0 w.offered, w.over)

pub returns : goal.returns
unfolding over_calls
returns c =
    record { offered = calls-none (omega (arith, c.args.last.now.lent.calls.fits, c.loop-b-test.false)) c.loop-b.invariant.0; over = c.loop-b.invariant.1 }
