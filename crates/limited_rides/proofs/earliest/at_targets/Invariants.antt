-- `at_targets` meets its contract: a loop over the targets.
use Rattle.limited_rides.proofs.DueLaws.{InDue}
use Rattle.limited_rides.proofs.earliest.at_targets.Given as goal

abbrev pub invariant-loop-x : goal.invariant-loop-x
invariant-loop-x l =
    (goal.iterator-loop-x).can_next l.x-iterator × (goal.iterator-loop-x).is_finite l.x-iterator
    × InDue l.calls.feed.now l.a l.fn.targets.left l.t l.x-iterator.left
