-- Nothing of a journey is lost in its row.
use mathlib.Core.Path.{◌≡◌, refl}
use mathlib.Core.Bool.{Bool, true, false, cond}
use mathlib.Core.List.{[], ◌∷◌}
use lib.Dec.{eqb}
use Rattle.profile.specs.declared.Ride.{Ride}
use Rattle.profile.specs.declared.Journey.{Journey}
use Rattle.timetable.specs.declared.journeys.TimetableRide.{TimetableRide}
use Rattle.timetable.specs.declared.journeys.TimetableJourney.{TimetableJourney}
use Rattle.timetable.specs.Journeys.{ride_row, ride_of, second_ride, third_ride, journey_row, middle_of, last_of, journey_of, ride_in, JourneyOfRow}

-- whichever ride stands second
stands : (j : Journey) (b : Bool) → record {
  leave = j.leave;
  arrival = j.arrival;
  rides = j.rides;
  walk = j.walk;
  origin = j.origin;
  target = j.target;
  first = j.first;
  middle = cond b (cond b j.middle j.last) (cond b j.last j.middle);
  last = cond b (cond b j.last j.middle) (cond b j.middle j.last);
} ≡ j
stands j true = refl
stands j false = refl

pub journey-of-row : JourneyOfRow
unfolding ride_row ride_of second_ride third_ride journey_row middle_of last_of journey_of
journey-of-row j = stands j (eqb j.rides 2)

-- a row by its three rides
pub row-made : (j : Journey) {a b c : TimetableRide} → a ≡ ride_row j.first → b ≡ ride_row (second_ride j) → c ≡ ride_row (third_ride j)
    → record {
      leave = j.leave;
      arrival = j.arrival;
      rides = j.rides;
      walk = j.walk;
      origin = j.origin;
      target = j.target;
      ride = a ∷ b ∷ c ∷ [];
    } ≡ journey_row j
unfolding journey_row
row-made j p q r = λ i. record {
  leave = j.leave;
  arrival = j.arrival;
  rides = j.rides;
  walk = j.walk;
  origin = j.origin;
  target = j.target;
  ride = p i ∷ q i ∷ r i ∷ [];
}

-- a journey by its three rides
pub journey-made : (r : TimetableJourney) {a b c : Ride} → a ≡ ride_in r 0 → b ≡ middle_of r → c ≡ last_of r
    → record {
      leave = r.leave;
      arrival = r.arrival;
      rides = r.rides;
      walk = r.walk;
      origin = r.origin;
      target = r.target;
      first = a;
      middle = b;
      last = c;
    } ≡ journey_of r
unfolding journey_of
journey-made r p q s = λ i. record {
  leave = r.leave;
  arrival = r.arrival;
  rides = r.rides;
  walk = r.walk;
  origin = r.origin;
  target = r.target;
  first = p i;
  middle = q i;
  last = s i;
}
