-- `at_targets` meets its contract: a loop over the targets.
use Rattle.rides.proofs.LoopLaws.{digits-small}
use Rattle.limited_rides.proofs.DueLaws.{due-start, due-turn, due-done}
use Rattle.limited_rides.proofs.earliest.at_targets.Goals as goal

pub loop-x-init : goal.loop-x-init
loop-x-init c = rw c.into_iter-x-iterator.ensures.into_iter_gives (tt, tt, due-start)

pub target_walk-requires : goal.target_walk-requires
target_walk-requires c = digits-small _ c.in-Some.ensures.steps

pub loop-x-preserved : goal.loop-x-preserved
loop-x-preserved c =
    (tt, tt, due-turn c.in-Some.ensures.steps c.target_walk.ensures c.arrival_of.ensures c.sooner-t.ensures c.loop-x.invariant.2)

pub returns : goal.returns
returns c = due-done c.in-None.ensures.steps.0 c.loop-x.invariant.2
