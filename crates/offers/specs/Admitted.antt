-- Which journeys a timetable admits: a relation over the calls as taken, with no order in it. And what is claimed of it.
-- "A ride boards at a boardable call and alights at a later alightable call of that trip and day."
use Rattle.std.specs.Prelude.{◌≡◌, ◌⊎◌, ◌↔◌, true, false, ℕ, ◌*◌, ◌/◌, ◌≤◌, ◌<◌, min}
use mathlib.Core.List.{List, Memᴰ, Permᴰ}
use Rattle.laws.specs.Bits.{digit}
use Rattle.calls.specs.declared.Call.{Call}
use Rattle.profile.specs.declared.Ride.{Ride}
use Rattle.profile.specs.declared.Journey.{Journey}
use Rattle.offers.specs.Order.{clashes, Run, Timed}
use Rattle.offers.specs.Offers.{Timetable, with_calls, ride_of, direct_of, change_of, three_of, sorted, offers}

-- a ride of these calls boards at b and alights at a
pub record Rides (calls : List Call) (b a : Call) : Type 0 where
  pub from : Memᴰ b calls
  pub to : Memᴰ a calls
  pub run : Run b a
  pub later : b.sequence < a.sequence
  pub board : b.board ≡ true
  pub alight : a.alight ≡ true

-- b's stop is of origin o, one of at most 4, and b departs late enough to walk there
pub record Starts (t : Timetable) (b : Call) (o : ℕ) : Type 0 where
  pub count : o < min t.origins 4
  pub member : digit o (t.members b.stop) ≡ true
  pub walked : t.origin_walk o * 60 ≤ b.departure

-- a's stop is of target k, one of at most 4
pub record Ends (t : Timetable) (a : Call) (k : ℕ) : Type 0 where
  pub count : k < min t.targets 4
  pub member : digit k (t.members a.stop / 16) ≡ true

-- j is the journey of one ride
pub record Direct (t : Timetable) (j : Journey) : Type 0 where
  pub b : Call
  pub a : Call
  pub o : ℕ
  pub k : ℕ
  pub ride : Rides t.calls b a
  pub starts : Starts t b o
  pub ends : Ends t a k
  pub is : j ≡ direct_of t (ride_of b a) o k

-- j is the journey of two rides, the second of which the first joins
pub record Change (t : Timetable) (j : Journey) : Type 0 where
  pub b : Call
  pub a : Call
  pub c : Call
  pub d : Call
  pub o : ℕ
  pub k : ℕ
  pub may : 1 ≤ t.max_transfers
  pub first : Rides t.calls b a
  pub last : Rides t.calls c d
  pub starts : Starts t b o
  pub ends : Ends t d k
  pub joined : t.joins (ride_of b a) c ≡ true
  pub is : j ≡ change_of t (ride_of b a) (ride_of c d) o k

-- j is the journey of three rides: "A middle ride needs a boardable and a later alightable call of one trip and day, and joins on both
-- sides."
pub record Three (t : Timetable) (j : Journey) : Type 0 where
  pub b : Call
  pub a : Call
  pub c : Call
  pub d : Call
  pub e : Call
  pub g : Call
  pub o : ℕ
  pub k : ℕ
  pub may : 2 ≤ t.max_transfers
  pub first : Rides t.calls b a
  pub middle : Rides t.calls c d
  pub last : Rides t.calls e g
  pub starts : Starts t b o
  pub ends : Ends t g k
  pub joins_middle : t.joins (ride_of b a) c ≡ true
  pub joins_last : t.joins (ride_of c d) e ≡ true
  pub is : j ≡ three_of t (ride_of b a) (ride_of c d) (ride_of e g) o k

abbrev pub Admitted : Timetable → Journey → Type 0
Admitted t j = Direct t j ⊎ (Change t j ⊎ Three t j)

-- ---- what is claimed

-- the search is not refused by neighbours
abbrev pub Clear : Timetable → Type 0
Clear t = clashes (sorted t) ≡ false

-- a ride joins only one that departs no earlier than it arrives
abbrev pub InTime : Timetable → Type 0
InTime t = (f : Ride) (c : Call) → t.joins f c ≡ true → f.arrival ≤ c.departure

-- what is offered is what is admitted
abbrev pub OffersAdmitted : Type 0
OffersAdmitted = (t : Timetable) → Clear t → (j : Journey) → Memᴰ j (offers t) ↔ Admitted t j

-- no offer leaves after it arrives
abbrev pub OffersAhead : Type 0
OffersAhead = (t : Timetable) → Clear t → Timed t.calls → InTime t → (j : Journey) → Memᴰ j (offers t) → j.leave ≤ j.arrival

-- what is admitted and what is offered don't depend on the order in which the calls were taken
abbrev pub AdmittedInAnyOrder : Type 0
AdmittedInAnyOrder = (t : Timetable) (ys : List Call) → Permᴰ t.calls ys → (j : Journey) → Admitted t j ↔ Admitted (with_calls t ys) j

abbrev pub OffersInAnyOrder : Type 0
OffersInAnyOrder = (t : Timetable) (ys : List Call) → Permᴰ t.calls ys → Clear t → offers t ≡ offers (with_calls t ys)
