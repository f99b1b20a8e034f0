-- `target_bound` meets its contract: a loop over the targets.
use Rattle.rides.proofs.BoundLaws.{InMask}
use Rattle.rides.proofs.bounds.target_bound.Given as goal

abbrev pub invariant-loop-x : goal.invariant-loop-x
invariant-loop-x l =
    (goal.iterator-loop-x).can_next l.x-iterator × (goal.iterator-loop-x).is_finite l.x-iterator
    × InMask l.calls.feed.now l.a l.fn.targets.left l.t l.x-iterator.left
