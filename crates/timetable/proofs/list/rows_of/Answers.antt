-- Each call of the closure gives the row at its place.
use Rattle.std.proofs.Common.{rules, tests}
use Rattle.laws.proofs.Made.{made-table}
use Rattle.profile.specs.Journeys.{no_journey}
use Rattle.timetable.specs.Journeys.{journey_row}
use Rattle.timetable.specs.List.{row_at, rows_of}
use Rattle.timetable.proofs.list.rows_of.Goals as goal

pub returns : goal.returns
unfolding rows_of
returns c =
    made-table _ _ (row_at c.args.kept.now) (λ k y q called. search (rules, tests)) (journey_row no_journey) _ 64 c.from_fn.ensures.items
