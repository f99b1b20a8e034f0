-- The first ride, and of the others those that are there.
use mathlib.Core.Path.{refl}
use borrow.Author.Tests.{le-leb, lt-leb}
use Rattle.buffer.proofs.PutLaws.{put_then, put_as}
use Rattle.lines.specs.Rides.{ride_text}
use Rattle.lines.proofs.RideLaws.{rides-text, there, absent}
use Rattle.lines.proofs.journeys.put_rides.Goals as goal
use Rattle.lines.proofs.journeys.put_rides.Goals.{then-j-ge3, else-j-ge3}

pub returns-then-j-ge2 : goal.returns-then-j-ge2
returns-then-j-ge2 c =
    let j = c.args.j.now in
    let last = there (le-leb _ _ c.if-j-ge2.true) c.put_ride-then-j-ge2.ensures in
    put_as (rides-text j) (put_then c.put_ride.ensures (elim c.if-j-ge3.branch [
      | then-j-ge3 w ↦ put_then (there (le-leb _ _ w.if-j-ge3.true) w.put_ride-then-j-ge3.ensures) (rw w.out-is at last)
      | else-j-ge3 w ↦ put_then (absent 50 (ride_text j.middle) (lt-leb _ _ w.if-j-ge3.false) w.out-is) last
    ]))

pub returns-else-j-ge2 : goal.returns-else-j-ge2
returns-else-j-ge2 c =
    let j = c.args.j.now in
    let last = absent 50 (ride_text j.last) (lt-leb _ _ c.if-j-ge2.false) refl in
    put_as (rides-text j) (put_then c.put_ride.ensures (elim c.if-j-ge3.branch [
      | then-j-ge3 w ↦ put_then (there (le-leb _ _ w.if-j-ge3.true) (rw (← w.out-is) at w.put_ride-then-j-ge3.ensures)) last
      | else-j-ge3 w ↦ put_then (absent 50 (ride_text j.middle) (lt-leb _ _ w.if-j-ge3.false) w.out-is) last
    ]))
