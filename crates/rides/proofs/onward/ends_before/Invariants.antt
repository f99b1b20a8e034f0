-- `ends_before` meets its contract: a loop over the targets.
use Rattle.laws.specs.Bits.{bits_of}
use Rattle.rides.specs.Loops.{end_at}
use Rattle.rides.specs.Over.{Over}
use Rattle.rides.specs.Sheets.{sheet_of}
use Rattle.rides.proofs.LoopLaws.{Rest}
use Rattle.rides.proofs.onward.ends_before.Given as goal

abbrev pub invariant-loop-x : goal.invariant-loop-x
invariant-loop-x l =
    (goal.iterator-loop-x).can_next l.x-iterator × (goal.iterator-loop-x).is_finite l.x-iterator
    × Rest l.fn.st l.st (end_at (sheet_of l.calls.feed.now) l.f l.p.board l.p.alight l.r.board l.r.alight) (bits_of l.fn.targets.left)
    (bits_of l.x-iterator.left)
    × Over l.st l.f 3 l.over
