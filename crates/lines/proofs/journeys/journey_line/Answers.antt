-- The figures, the rides if they are asked for, and the line's end.
use Rattle.lines.specs.Lines.{journey_line_of}
use Rattle.lines.specs.Rides.{ride_line, line_for, line_most}
use Rattle.buffer.proofs.PutLaws.{put_then}
use Rattle.lines.proofs.journeys.journey_line.Goals as goal
use Rattle.lines.proofs.journeys.journey_line.Goals.{then-rides, else-rides}

pub returns : goal.returns
unfolding journey_line_of ride_line line_for line_most
returns c =
    elim c.if-rides.branch [
      | then-rides w ↦ rw w.if-rides.true (put_then c.put_journey.ensures (put_then w.put_rides.ensures (rw w.out-is at c.byte.ensures)))
      | else-rides w ↦ rw w.if-rides.false (put_then c.put_journey.ensures (rw w.out-is at c.byte.ensures))
    ]
