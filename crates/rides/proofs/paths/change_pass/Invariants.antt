-- `change_pass` meets its contract: a loop over the first rides.
use Rattle.rides.specs.Over.{Knows}
use Rattle.rides.proofs.LoopLaws.{PassRest}
use Rattle.rides.proofs.paths.change_pass.Given as goal

abbrev pub invariant-loop-l : goal.invariant-loop-l
invariant-loop-l l =
    (goal.iterator-loop-l).can_next l.l-iterator × (goal.iterator-loop-l).is_finite l.l-iterator
    × PassRest l.last.lent 1 l.fn.st l.st l.l-iterator × Knows l.st l.last l.known
