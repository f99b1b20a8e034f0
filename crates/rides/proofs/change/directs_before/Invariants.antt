-- `directs_before` meets its contract: a loop over the stop's targets.
use Rattle.laws.specs.Bits.{bits_of}
use Rattle.search_input.specs.Feed.{target_mask}
use Rattle.rides.specs.Loops.{direct_at}
use Rattle.rides.specs.Over.{Over}
use Rattle.rides.specs.Sheets.{sheet_of}
use Rattle.rides.proofs.LoopLaws.{Rest}
use Rattle.rides.proofs.change.directs_before.Given as goal

abbrev pub invariant-loop-x : goal.invariant-loop-x
invariant-loop-x l =
    let feed = l.calls.feed.now in
    (goal.iterator-loop-x).can_next l.x-iterator × (goal.iterator-loop-x).is_finite l.x-iterator
    × Rest l.fn.st l.st (direct_at (sheet_of feed) l.f) (bits_of (target_mask feed l.f.stop)) (bits_of l.x-iterator.left)
    × Over l.st l.f 1 l.over
