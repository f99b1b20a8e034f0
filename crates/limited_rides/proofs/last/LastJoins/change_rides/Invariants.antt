-- `change_rides` meets its contract: a loop over the calls, which ends where the search stops.
use Rattle.std.proofs.Common.{◌-◌}
use Rattle.laws.specs.Lists.{span}
use Rattle.rides.specs.Over.{Over}
use Rattle.rides.specs.Places.{sheet_in, joins_in}
use Rattle.limited_rides.specs.RowEvents.{board_events}
use Rattle.limited_rides.proofs.TurnLaws.{Rest}
use Rattle.limited_rides.proofs.last.LastJoins.change_rides.Given as goal

abbrev pub invariant-loop-j : goal.invariant-loop-j
invariant-loop-j l =
    let lent = l.self.last.lent in
    let n = lent.calls.n in
    Rest l.fn.st l.fn.tally l.st l.tally (board_events (sheet_in lent) (joins_in lent) n l.f) (span 0 (n - 0)) (span l.j (n - l.j))
    × Over l.st l.f 2 l.over
