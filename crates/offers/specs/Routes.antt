-- Which routes a timetable admits, by depth: a relation over the calls as taken, with no order in it; and that they are those listed.
use Rattle.std.specs.Prelude.{◌≡◌, ◌↔◌, true, cond, ℕ, zero, suc, ◌≤◌}
use mathlib.Core.List.{List, [], ◌∷◌, Memᴰ, Permᴰ}
use Rattle.ways.specs.Rides.{Leg, journeys}
use Rattle.calls.specs.declared.Call.{Call}
use Rattle.profile.specs.Kept.{searched}
use Rattle.profile.specs.Journeys.{journey_figures}
use Rattle.offers.specs.Order.{clashes, Timed}
use Rattle.offers.specs.Offers.{Timetable, with_calls, ride_of, leave_of, arrival_of, network_of, direct_by, change_by, sorted, routes_of}
use Rattle.offers.specs.Offers.{offers}
use Rattle.offers.specs.Admitted.{Rides, Starts, Ends, Clear, InTime}
use Rattle.offers.specs.Search.{clashing, found_by, search_of}
use Rattle.ways.specs.Routes.{Way, Route, here, ride_then, onward}
use Rattle.profile.specs.Sizes.{kept_room, least_horizon}

-- w leads on from the ride r, by so many changes
abbrev pub Onward : ℕ → Timetable → Leg Call → Way Call → Type 0
Onward zero t r w = (k : ℕ) × Ends t r.a k × (w ≡ here k)
Onward (suc left) t r w =
    (l : Leg Call) × (v : Way Call) × Rides t.calls l.b l.a × (t.joins (ride_of r.b r.a) l.b ≡ true)
    × Onward left t l v × (w ≡ ride_then l v)

-- by n changes
pub record WithChanges (n : ℕ) (t : Timetable) (r : Route Call) : Type 0 where
  pub may : n ≤ t.max_transfers
  pub ride : Rides t.calls r.first.ride.b r.first.ride.a
  pub starts : Starts t r.first.ride.b r.first.o
  pub on : Onward n t r.first.ride r.way

-- by one ride, two or three
abbrev pub AdmittedRoute : Timetable → Route Call → Type 0
AdmittedRoute t r = (n : ℕ) × (n ≤ 2) × WithChanges n t r

-- when the last of these rides arrives, and the target is reached
abbrev pub arrives_at : Leg Call → List (Leg Call) → ℕ
arrives_at r [] = r.a.arrival
arrives_at r (l ∷ ls) = arrives_at l ls

abbrev pub leaves : Timetable → Route Call → ℕ
leaves t r = leave_of t r.first.o r.first.ride.b.departure

abbrev pub arrives : Timetable → Route Call → ℕ
arrives t r = arrival_of t r.way.target (arrives_at r.first.ride r.way.rides)

-- ---- what is claimed

-- what leads on in order is what leads on, at every depth
abbrev pub OnwardIs : Type 0
OnwardIs = (n : ℕ) (t : Timetable) → Clear t → (r : Leg Call) (w : Way Call)
    → Memᴰ w (onward (network_of t) n (sorted t) r) ↔ Onward n t r w

-- what is listed is what is admitted
abbrev pub RoutesAdmitted : Type 0
RoutesAdmitted = (t : Timetable) → Clear t → (r : Route Call) → Memᴰ r (routes_of t) ↔ AdmittedRoute t r

-- no route leaves after it arrives
abbrev pub RoutesAhead : Type 0
RoutesAhead = (t : Timetable) → Clear t → Timed t.calls → InTime t → (r : Route Call) → Memᴰ r (routes_of t) → leaves t r ≤ arrives t r

-- the routes don't depend on the order in which the calls were taken
abbrev pub RoutesInAnyOrder : Type 0
RoutesInAnyOrder = (t : Timetable) (ys : List Call) → Permᴰ t.calls ys → Clear t → routes_of t ≡ routes_of (with_calls t ys)

-- with max_transfers 0 and 1 the offers are the journeys as they were, by first ride
abbrev pub OffersUpToOne : Type 0
OffersUpToOne = (t : Timetable) → t.max_transfers ≤ 1
    → offers t ≡ journeys (network_of t) (direct_by t) (change_by t) t.max_transfers (sorted t)

-- so a search answers as it did
abbrev pub SearchUpToOne : Type 0
SearchUpToOne = (t : Timetable) (h l : ℕ) → t.max_transfers ≤ 1
    → search_of t h l
    ≡ cond (clashes (sorted t)) clashing (found_by
    (searched journey_figures kept_room least_horizon h l (journeys (network_of t) (direct_by t) (change_by t) t.max_transfers (sorted t))))
