-- `change_paths` meets its contract: a loop over the first rides.
use Rattle.rides.specs.Over.{Knows}
use Rattle.limited_rides.proofs.TurnLaws.{PathRest}
use Rattle.limited_rides.proofs.paths.change_paths.Given as goal

abbrev pub invariant-loop-l : goal.invariant-loop-l
invariant-loop-l l =
    (goal.iterator-loop-l).can_next l.l-iterator × (goal.iterator-loop-l).is_finite l.l-iterator
    × PathRest l.joins.last.lent 1 l.fn.st l.fn.tally l.st l.tally l.l-iterator × Knows l.st l.joins.last l.known
