-- Each call of the closure gives the journey at its place.
use Rattle.std.proofs.Common.{rules, tests}
use lib.ListN.{get_or}
use Prim.Native.Nat.{ℕ}
use Rattle.laws.proofs.Made.{made-table}
use Rattle.profile.specs.Journeys.{no_journey}
use Rattle.timetable.specs.Journeys.{journey_of, no_row}
use Rattle.timetable.specs.Displays.{journeys_of}
use Rattle.timetable.proofs.shown.journeys_of.Goals as goal

pub returns : goal.returns
unfolding journeys_of
returns c =
    made-table _ _ (λ (i : ℕ). journey_of (get_or c.args.rows.now i no_row)) (λ k y q called. search (rules, tests)) no_journey _ 64
    c.from_fn.ensures.items
