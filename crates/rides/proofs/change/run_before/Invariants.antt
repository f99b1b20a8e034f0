-- `run_before` meets its contract: a loop over the later calls of the run. The invariant: what is left are those behind m.
use Rattle.std.proofs.Common.{◌+◌, ◌-◌, ◌<◌}
use Rattle.search_input.specs.Feed.{call_at}
use Rattle.rides.specs.Loops.{last_alight_rows, later_from}
use Rattle.rides.specs.Over.{Over}
use Rattle.rides.specs.Places.{sheet_in}
use Rattle.rides.proofs.LoopLaws.{Rest}
use Rattle.rides.proofs.change.run_before.Given as goal

abbrev pub invariant-loop-over : goal.invariant-loop-over
invariant-loop-over l =
    let at = call_at l.last.lent.calls.feed.now in
    let n = l.last.lent.calls.n in
    (l.m < n)
    × Rest l.fn.st l.st (last_alight_rows (sheet_in l.last.lent) l.f l.j) (later_from at n l.j (l.j + 1)) (later_from at n l.m (l.m + 1))
    × Over l.st l.f 2 l.over

abbrev pub decreases-loop-over : goal.decreases-loop-over
decreases-loop-over l = l.last.lent.calls.n - l.m
