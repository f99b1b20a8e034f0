-- `three_pass` meets its contract: a loop over the first rides.
use Rattle.rides.specs.Over.{Over}
use Rattle.rides.proofs.LoopLaws.{PassRest}
use Rattle.rides.proofs.paths.three_pass.Given as goal

abbrev pub invariant-loop-l : goal.invariant-loop-l
invariant-loop-l l =
    (goal.iterator-loop-l).can_next l.l-iterator × (goal.iterator-loop-l).is_finite l.l-iterator
    × PassRest l.three.lent 2 l.fn.st l.st l.l-iterator × Over l.st l.before 3 l.passed.from
