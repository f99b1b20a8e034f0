-- A journey as C and Rust read it, and the journey that it stands for.
use Rattle.std.specs.Prelude.{◌≡◌, false, cond, [], ◌∷◌, ℕ, eqb, get_or}
use Rattle.profile.specs.declared.Ride.{Ride}
use Rattle.profile.specs.declared.Journey.{Journey}
use Rattle.profile.specs.Journeys.{no_journey}
use Rattle.timetable.specs.declared.journeys.TimetableRide.{TimetableRide}
use Rattle.timetable.specs.declared.journeys.TimetableJourney.{TimetableJourney}

unfoldable pub ride_row : Ride → TimetableRide
ride_row r = record {
  trip = r.trip;
  from = r.from;
  to = r.to;
  departure = r.departure;
  arrival = r.arrival;
  day = r.day;
  board_request = r.board_request;
  alight_request = r.alight_request;
}

unfoldable pub ride_of : TimetableRide → Ride
ride_of r = record {
  trip = r.trip;
  day = r.day;
  from = r.from;
  to = r.to;
  departure = r.departure;
  arrival = r.arrival;
  board_request = r.board_request;
  alight_request = r.alight_request;
}

-- no ride: what stands where none counts
abbrev pub no_ride_row : TimetableRide
no_ride_row = record { trip = 0; from = 0; to = 0; departure = 0; arrival = 0; day = 0; board_request = false; alight_request = false }

-- of two rides the last is the second, of three the middle one; what is left stands third
unfoldable pub second_ride : Journey → Ride
second_ride j = cond (eqb j.rides 2) j.last j.middle

unfoldable pub third_ride : Journey → Ride
third_ride j = cond (eqb j.rides 2) j.middle j.last

unfoldable pub journey_row : Journey → TimetableJourney
journey_row j = record {
  leave = j.leave;
  arrival = j.arrival;
  rides = j.rides;
  walk = j.walk;
  origin = j.origin;
  target = j.target;
  ride = ride_row j.first ∷ ride_row (second_ride j) ∷ ride_row (third_ride j) ∷ [];
}

-- ride i of a row
abbrev pub ride_in : TimetableJourney → ℕ → Ride
ride_in r i = ride_of (get_or r.ride i no_ride_row)

-- of two rides the middle one stands third
unfoldable pub middle_of : TimetableJourney → Ride
middle_of r = cond (eqb r.rides 2) (ride_in r 2) (ride_in r 1)

unfoldable pub last_of : TimetableJourney → Ride
last_of r = cond (eqb r.rides 2) (ride_in r 1) (ride_in r 2)

unfoldable pub journey_of : TimetableJourney → Journey
journey_of r = record {
  leave = r.leave;
  arrival = r.arrival;
  rides = r.rides;
  walk = r.walk;
  origin = r.origin;
  target = r.target;
  first = ride_in r 0;
  middle = middle_of r;
  last = last_of r;
}

-- what is read past the end of a list of rows: all 0
abbrev pub no_row : TimetableJourney
no_row = journey_row no_journey

-- nothing of a journey is lost
abbrev pub JourneyOfRow : Type 0
JourneyOfRow = (j : Journey) → journey_of (journey_row j) ≡ j
