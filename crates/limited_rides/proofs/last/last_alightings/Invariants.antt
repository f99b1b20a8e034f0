-- `last_alightings` meets its contract: a loop over the later calls of the run.
use Rattle.std.proofs.Common.{◌+◌}
use Rattle.search_input.specs.Feed.{call_at}
use Rattle.rides.specs.Loops.{later_from}
use Rattle.rides.specs.Places.{later_left, sheet_in, joins_in}
use Rattle.limited_rides.specs.RowEvents.{ride_events}
use Rattle.limited_rides.proofs.TurnLaws.{Rest}
use Rattle.limited_rides.proofs.last.last_alightings.Given as goal

abbrev pub invariant-loop-m : goal.invariant-loop-m
invariant-loop-m l =
    (goal.iterator-loop-m).can_next l.m-iterator × (goal.iterator-loop-m).is_finite l.m-iterator
    × Rest l.fn.st l.fn.tally l.st l.tally (ride_events (sheet_in l.lent) (joins_in l.lent) l.f l.j)
    (later_from (call_at l.lent.calls.feed.now) l.lent.calls.n l.j (l.j + 1))
    (later_left l.m-iterator)
