-- The journeys that a search offers, over the calls in order: "For each boarding call in order, then each origin of its stop (a stop's
-- origins are taken lowest set bit first), then each alighting call", as `routes` of crate `ways` lists them; "all three-ride journeys
-- after all the others". Here stands what a timetable's calls are to it.
use Rattle.std.specs.Prelude.{Bool, ◌&&◌, List, [], ◌∷◌, map, ℕ, ◌+◌, ◌-◌, ◌*◌, ◌/◌, min, eqb, leb}
use Rattle.laws.specs.Lists.{filterb}
use Rattle.laws.specs.Bits.{bits_from}
use Rattle.ways.specs.Rides.{Leg, First, Network}
use Rattle.ways.specs.Routes.{Route, routes}
use Rattle.calls.specs.declared.Call.{Call}
use Rattle.profile.specs.declared.Ride.{Ride}
use Rattle.profile.specs.declared.Journey.{Journey}
use Rattle.profile.specs.Journeys.{no_ride}
use Rattle.offers.specs.Order.{in_order_of}

-- what a search reads: the calls as taken, each stop's membership byte, counts and walks in minutes, and whether a ride joins one that
-- boards at a call
pub record Timetable : Type 0 where
  pub calls : List Call
  pub members : ℕ → ℕ
  pub origins : ℕ
  pub targets : ℕ
  pub origin_walk : ℕ → ℕ
  pub target_walk : ℕ → ℕ
  pub max_transfers : ℕ
  pub joins : Ride → Call → Bool

-- the same with other calls
abbrev pub with_calls : Timetable → List Call → Timetable
with_calls t cs =
    record {
      calls = cs;
      members = t.members;
      origins = t.origins;
      targets = t.targets;
      origin_walk = t.origin_walk;
      target_walk = t.target_walk;
      max_transfers = t.max_transfers;
      joins = t.joins;
    }

-- ---- rides and journeys

-- the ride that boards at b and alights at a
abbrev pub ride_of : Call → Call → Ride
ride_of b a =
    record {
      trip = b.trip;
      day = b.day;
      from = b.stop;
      to = a.stop;
      departure = b.departure;
      arrival = a.arrival;
      board_request = b.board_request;
      alight_request = a.alight_request;
    }

-- leave = departure − walk × 60, arrival = alighting + target walk × 60
abbrev pub leave_of : Timetable → ℕ → ℕ → ℕ
leave_of t o departure = departure - t.origin_walk o * 60

abbrev pub arrival_of : Timetable → ℕ → ℕ → ℕ
arrival_of t k alighting = alighting + t.target_walk k * 60

-- n rides from origin o to target k, the first f, the middle m and the last l, that alight last at `alighting`
abbrev pub journey_of : Timetable → ℕ → Ride → Ride → Ride → ℕ → ℕ → ℕ → Journey
journey_of t n f m l alighting o k =
    record {
      leave = leave_of t o f.departure;
      arrival = arrival_of t k alighting;
      rides = n;
      walk = t.origin_walk o;
      origin = o;
      target = k;
      first = f;
      middle = m;
      last = l;
    }

-- one ride: its last is the blank ride; of fewer than three, the middle one is
abbrev pub direct_of : Timetable → Ride → ℕ → ℕ → Journey
direct_of t f o k = journey_of t 1 f no_ride no_ride f.arrival o k

abbrev pub change_of : Timetable → Ride → Ride → ℕ → ℕ → Journey
change_of t f l o k = journey_of t 2 f no_ride l l.arrival o k

abbrev pub three_of : Timetable → Ride → Ride → Ride → ℕ → ℕ → Journey
three_of t f m l o k = journey_of t 3 f m l l.arrival o k

-- ---- what is read of a call

abbrev pub same_run : Call → Call → Bool
same_run b a = eqb b.trip a.trip && eqb b.day a.day

-- the origins and targets of a call's stop: bits 0 to 3 and bits 4 to 7 of its membership byte, those past the counts ignored; "boarding
-- needs departure at or above walk × 60"
abbrev pub origins_of : Timetable → Call → List ℕ
origins_of t b = filterb (λ o. leb (t.origin_walk o * 60) b.departure) (bits_from (min t.origins 4) 0 (t.members b.stop))

abbrev pub targets_of : Timetable → Call → List ℕ
targets_of t a = bits_from (min t.targets 4) 0 (t.members a.stop / 16)

-- what the rides are made of
unfoldable pub network_of : Timetable → Network Call
network_of t =
    record {
      same = same_run;
      board = λ c. c.board;
      alight = λ c. c.alight;
      origins = origins_of t;
      targets = targets_of t;
      joins = λ r c. t.joins (ride_of r.b r.a) c;
    }

-- ---- the offers

abbrev pub ride_by : Leg Call → Ride
ride_by r = ride_of r.b r.a

-- the journey that had the rides p and r after f and goes on by these: the last two are its middle and its last ride
abbrev pub on_journey : Timetable → Ride → ℕ → ℕ → Leg Call → Leg Call → List (Leg Call) → Journey
on_journey t f o k p r [] = three_of t f (ride_by p) (ride_by r) o k
on_journey t f o k p r (l ∷ ls) = on_journey t f o k r l ls

abbrev pub journey_to : Timetable → Ride → ℕ → ℕ → List (Leg Call) → Journey
journey_to t f o k [] = direct_of t f o k
journey_to t f o k (l ∷ []) = change_of t f (ride_by l) o k
journey_to t f o k (p ∷ r ∷ ls) = on_journey t f o k p r ls

abbrev pub journey_by : Timetable → Route Call → Journey
journey_by t r = journey_to t (ride_by r.first.ride) r.first.o r.way.target r.way.rides

-- the journeys of a first ride, alone and with a last ride
abbrev pub direct_by : Timetable → First Call → ℕ → Journey
direct_by t f k = direct_of t (ride_of f.ride.b f.ride.a) f.o k

abbrev pub change_by : Timetable → First Call → Leg Call → ℕ → Journey
change_by t f l k = change_of t (ride_of f.ride.b f.ride.a) (ride_of l.b l.a) f.o k

abbrev pub sorted : Timetable → List Call
sorted t = in_order_of t.calls

-- every route, and every offer of a search, in order
abbrev pub routes_of : Timetable → List (Route Call)
routes_of t = routes (network_of t) t.max_transfers (sorted t)

unfoldable pub offers : Timetable → List Journey
offers t = map (journey_by t) (routes_of t)
