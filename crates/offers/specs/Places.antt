-- The calls by places, as the loops over an array go: `at i` is the call at place i of the calls in order, and n is their count. The
-- masks that a loop reads, and the journey of a row: its figures, its origin and target, and its calls by their places.
use Rattle.std.specs.Prelude.{◌≡◌, cond, map, ℕ, ◌/◌, ◌%◌, ◌^◌, min, eqb, leb}
use Rattle.laws.specs.Lists.{span}
use Rattle.calls.specs.declared.Call.{Call}
use Rattle.profile.specs.Found.{Row}
use Rattle.profile.specs.declared.Journey.{Journey}
use Rattle.profile.specs.Journeys.{no_ride}
use Rattle.offers.specs.Offers.{Timetable, ride_of, sorted}

-- the lowest c digits of m, at most 4 of them
unfoldable pub mask_of : ℕ → ℕ → ℕ
mask_of c m = m % 2 ^ min c 4

unfoldable pub origin_mask : Timetable → ℕ → ℕ
origin_mask t stop = mask_of t.origins (t.members stop)

unfoldable pub target_mask : Timetable → ℕ → ℕ
target_mask t stop = mask_of t.targets (t.members stop / 16)

-- the journey of a row
unfoldable pub journey_at : (ℕ → Call) → Row → Journey
journey_at at r =
    record {
      leave = r.leave;
      arrival = r.arrival;
      rides = r.rides;
      walk = r.walk;
      origin = r.origin;
      target = r.target;
      first = ride_of (at r.board) (at r.alight);
      middle = cond (eqb r.rides 3) (ride_of (at r.middle_board) (at r.middle_alight)) no_ride;
      last = cond (leb 2 r.rides) (ride_of (at r.board2) (at r.alight2)) no_ride;
    }

-- the places hold the calls in order
abbrev pub InPlaces : Timetable → (ℕ → Call) → ℕ → Type 0
InPlaces t at n = sorted t ≡ map at (span 0 n)
