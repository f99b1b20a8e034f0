-- A row by its three rides.
use mathlib.Core.Path.{ap, ◌∙◌}
use Rattle.timetable.specs.Journeys.{ride_row}
use Rattle.timetable.proofs.JourneyLaws.{row-made}
use Rattle.timetable.proofs.journeys.journey_row.Goals as goal

pub returns : goal.returns
returns c =
    row-made c.args.j c.ride_row.ensures (c.ride_row-2.ensures ∙ ap ride_row c.second_ride.ensures)
    (c.ride_row-3.ensures ∙ ap ride_row c.third_ride.ensures)
