-- The functions of the cycle meet their contracts. The measure is the number of changes left, six to a change: each of the six is called
-- below the one before it, and `rides_on` with one change fewer below `onward`.
use Rattle.std.proofs.Common.{◌≡◌, true, ◌+◌, ◌-◌, ◌*◌, ◌<◌}
use Rattle.laws.specs.Lists.{span}
use Rattle.search_input.specs.Feed.{call_at, same_run}
use Rattle.rides.specs.Loops.{later_from, alight_on, board_on}
use Rattle.rides.specs.Over.{Over}
use Rattle.rides.specs.Places.{sheet_in, joins_in}
use Rattle.rides.specs.Reach.{block_width, block_end}
use Rattle.rides.proofs.LoopLaws.{Rest}
use Rattle.rides.proofs.onward.ThreeRides.+onward.Given as goal

abbrev pub decreases-alight_on : goal.decreases-alight_on
decreases-alight_on l = l.left * 6 + 1

abbrev pub decreases-run_on : goal.decreases-run_on
decreases-run_on l = l.left * 6 + 2

abbrev pub decreases-board_on : goal.decreases-board_on
decreases-board_on l = l.left * 6 + 3

abbrev pub decreases-onward : goal.decreases-onward
decreases-onward l = l.left * 6

abbrev pub decreases-rides_on : goal.decreases-rides_on
decreases-rides_on l = l.left * 6 + 5

abbrev pub decreases-block_on : goal.decreases-block_on
decreases-block_on l = l.left * 6 + 4

abbrev pub invariant-run_on-loop-over : goal.invariant-run_on-loop-over
invariant-run_on-loop-over l =
    let lent = l.self.lent in
    let at = call_at lent.calls.feed.now in
    let n = lent.calls.n in
    (l.d < n) × (same_run (at l.c) (at l.d) ≡ true)
    × Rest l.fn.st l.st (alight_on l.left (sheet_in lent) (joins_in lent) n l.f l.r.board l.r.alight l.c) (later_from at n l.c (l.c + 1))
    (later_from at n l.d (l.d + 1))
    × Over l.st l.f 3 l.over

abbrev pub decreases-run_on-loop-over : goal.decreases-run_on-loop-over
decreases-run_on-loop-over l = l.self.lent.calls.n - l.d

abbrev pub invariant-block_on-loop-c : goal.invariant-block_on-loop-c
invariant-block_on-loop-c l =
    let lent = l.self.lent in
    let n = lent.calls.n in
    let end = block_end n l.from in
    Rest l.fn.st l.st (board_on l.left (sheet_in lent) (joins_in lent) n l.f l.p l.r.board l.r.alight) (span l.from (end - l.from))
    (span l.c (end - l.c))
    × Over l.st l.f 3 l.over

abbrev pub invariant-rides_on-loop-b : goal.invariant-rides_on-loop-b
invariant-rides_on-loop-b l =
    let lent = l.self.lent in
    let n = lent.calls.n in
    let c = l.b * block_width in
    Rest l.fn.st l.st (board_on l.left (sheet_in lent) (joins_in lent) n l.f l.p l.r.board l.r.alight) (span 0 (n - 0)) (span c (n - c))
    × Over l.st l.f 3 l.over
