-- `run_before` meets its contract: a loop over the later calls of the run.
use Rattle.std.proofs.Common.{refl, arith}
use Rattle.search_input.specs.Feed.{call_at}
use Rattle.rides.specs.Loops.{over_run}
use Rattle.rides.proofs.LoopLaws.{run-end, run-next, run-on}
use Rattle.rides.proofs.OverLaws.{run-out, rest-out}
use Rattle.rides.proofs.RestLaws.{rest-same, rest-turn, rest-none}
use Rattle.rides.proofs.change.run_before.Goals as goal

pub loop-over-init : goal.loop-over-init
loop-over-init c = (c.requires.0, rest-same refl, c.requires.1)

pub invariant_of-r : goal.invariant_of-r
invariant_of-r c =
    let h = run-next (call_at c.args.last.now.lent.calls.feed.now) _ _ c.goes_on.ensures c.if-goes_on.true in
    record { placed = (omega (arith, c.requires.0, c.args.last.now.lent.calls.fits), omega (arith, h, c.args.last.now.lent.calls.fits)) }

pub loop-over-preserved : goal.loop-over-preserved
loop-over-preserved c =
    let w = c.alight_before-over.ensures in (
      run-next (call_at c.args.last.now.lent.calls.feed.now) _ _ c.goes_on.ensures c.if-goes_on.true,
      rest-turn (run-on _ _ _ c.goes_on.ensures c.if-goes_on.true) c.loop-over.invariant.1 w.offered,
      w.over,
    )

pub returns-else-goes_on : goal.returns-else-goes_on
unfolding over_run
returns-else-goes_on c =
    record {
      offered = rest-none (run-end _ _ _ c.goes_on.ensures c.if-goes_on.false) c.loop-over.invariant.1;
      over = c.loop-over.invariant.2;
    }

pub returns : goal.returns
unfolding over_run
returns c =
    let i = c.loop-over.invariant in
    record {
      offered =
          rest-out (run-out _ _ _ _ _ (omega (arith, c.bound.ensures, c.loop-over-test.false)) (c.args.last.now.bounded.board _ i.0) i.2) i.1;
      over = i.2;
    }
