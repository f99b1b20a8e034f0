-- Which journeys are admitted, as a relation over what was handed in: settings, stops, rules and calls, raw, with a horizon for the window.
-- No test of the program's stands here, and none of its timetable, table or load.
-- RULES 3, 6, 8.2, 8.3.
use Rattle.std.specs.Prelude.{◌≡◌, ◌⊎◌, true, ℕ, zero, suc, ◌+◌, ◌*◌, ◌/◌, ◌%◌, ◌^◌, ◌≤◌, ◌<◌, get_or, None, Option, Some}
use mathlib.Core.List.{List, [], ◌∷◌, Memᴰ}
use Rattle.settings.specs.declared.Settings.{Settings}
use Rattle.calls.specs.declared.CallInput.{CallInput}
use Rattle.calls.specs.declared.Call.{Call}
use Rattle.rules.specs.declared.Rule.{Rule}
use Rattle.profile.specs.declared.Ride.{Ride}
use Rattle.profile.specs.declared.Journey.{Journey}
use Rattle.profile.specs.Journeys.{no_ride}
use Rattle.comparison.specs.Taken.{StopGiven}
use Rattle.comparison.specs.Window.{Seen}

-- the n-th of a list, counted from 0
abbrev pub Nth : {A : Type 0} → List A → ℕ → A → Type 0
Nth [] n x = ⊥
Nth (y ∷ l) zero x = x ≡ y
Nth (y ∷ l) (suc n) x = Nth l n x

-- what a search is given. `Place x y`: the stops x and y are of one place
pub record Feed : Type 1 where
  pub settings : Settings
  pub stops : List StopGiven
  pub rules : List Rule
  pub calls : List CallInput
  pub horizon : ℕ
  pub Place : ℕ → ℕ → Type 0

-- ---- stops

-- p is the number of x's parent: a station with the id that x names
pub record Parent (ss : List StopGiven) (x p : ℕ) : Type 0 where
  pub child : StopGiven
  pub station : StopGiven
  pub at_child : Nth ss x child
  pub at_station : Nth ss p station
  pub named : child.parent ≡ Some station.id
  pub type_one : station.input.location_type ≡ 1

-- the bit of x's membership byte is set: 0 to 3 for the origins, 4 to 7 for the targets (RULES 3.3)
pub record Member (ss : List StopGiven) (x bit : ℕ) : Type 0 where
  pub given : StopGiven
  pub at : Nth ss x given
  pub set : given.input.members / 2 ^ bit % 2 ≡ 1

-- ---- changes

-- n, the from or to of a rule, is x or x's parent
abbrev pub Side : Feed → ℕ → ℕ → Type 0
Side F n x = (n ≡ x) ⊎ Parent F.stops x n

-- the rule applies to a change from x to y (RULES 6.2)
abbrev pub Applies : Feed → ℕ → ℕ → Rule → Type 0
Applies F x y r = Side F r.from x × Side F r.to y

-- how exact the rule is: 3 on both sides, 2 on the from side, 1 on the to side, 0 between both stations
pub data Rank (x y : ℕ) (r : Rule) : ℕ → Type 0 where
  both : r.from ≡ x → r.to ≡ y → Rank x y r 3
  fore : r.from ≡ x → (r.to ≡ y → ⊥) → Rank x y r 2
  rear : (r.from ≡ x → ⊥) → r.to ≡ y → Rank x y r 1
  neither : (r.from ≡ x → ⊥) → (r.to ≡ y → ⊥) → Rank x y r 0

-- r counts for a change from x to y: it was taken and applies, and every other rule that does is less exact, whichever was taken first
pub record Chosen (F : Feed) (x y : ℕ) (r : Rule) : Type 0 where
  pub taken : Memᴰ r F.rules
  pub applies : Applies F x y r
  pub highest : (q : Rule) (m n : ℕ) → Memᴰ q F.rules → Applies F x y q → (q ≡ r → ⊥) → Rank x y q m → Rank x y r n → m < n

-- the seconds of a rule, 0 for none
abbrev pub Seconds : Option ℕ → ℕ → Type 0
Seconds (Some n) v = v ≡ n
Seconds None v = v ≡ 0

-- n is the larger of a and b
abbrev pub Larger : ℕ → ℕ → ℕ → Type 0
Larger a b n = ((a ≤ b) × (n ≡ b)) ⊎ ((b ≤ a) × (n ≡ a))

-- a change by the rule r takes n seconds; `change` is the change time of the settings (RULES 6.3). Type 3 forbids it, so it has no case
pub data Gives (change : ℕ) (r : Rule) (n : ℕ) : Type 0 where
  type_zero : r.transfer_type ≡ 0 → n ≡ change → Gives change r n
  type_one : r.transfer_type ≡ 1 → n ≡ change → Gives change r n
  type_two : r.transfer_type ≡ 2 → (given : ℕ) → Seconds r.seconds given → Larger given change n → Gives change r n

-- a change from x to y takes n seconds by a rule
pub record ByRule (F : Feed) (x y n : ℕ) : Type 0 where
  pub by : Rule
  pub chosen : Chosen F x y by
  pub gives : Gives F.settings.transfer_seconds by n

-- without a rule that applies: the change time, between stops that are one, have one parent or are of one place (RULES 6.4)
pub record ByNearness (F : Feed) (x y n : ℕ) : Type 0 where
  pub no_rule : (q : Rule) → Memᴰ q F.rules → Applies F x y q → ⊥
  pub near : (x ≡ y) ⊎ (((p : ℕ) × Parent F.stops x p × Parent F.stops y p) ⊎ F.Place x y)
  pub takes : n ≡ F.settings.transfer_seconds

-- a change from x to y takes n seconds
abbrev pub Change : Feed → ℕ → ℕ → ℕ → Type 0
Change F x y n = ByRule F x y n ⊎ ByNearness F x y n

-- a ride that alights at a joins one that boards at c (RULES 6.5)
pub record Joins (F : Feed) (a c : Call) : Type 0 where
  pub differs : ((a.trip ≡ c.trip) × (a.day ≡ c.day)) → ⊥
  pub seconds : ℕ
  pub change : Change F a.stop c.stop seconds
  pub in_time : a.arrival + seconds ≤ c.departure

-- ---- rides and journeys

-- a ride from the call b to the call a, both taken and seen as these (RULES 8.2)
pub record Leg (F : Feed) (b a : Call) : Type 0 where
  pub boards : CallInput
  pub alights : CallInput
  pub taken : Memᴰ boards F.calls
  pub taken' : Memᴰ alights F.calls
  pub seen : Seen F.settings F.horizon boards b
  pub seen' : Seen F.settings F.horizon alights a
  pub trip : boards.trip ≡ alights.trip
  pub day : boards.day ≡ alights.day
  pub later : boards.sequence < alights.sequence
  pub board : b.board ≡ true
  pub alight : a.alight ≡ true

-- the ride r of a journey tells of the one from b to a
pub record IsRide (b a : Call) (r : Ride) : Type 0 where
  pub trip : r.trip ≡ b.trip
  pub day : r.day ≡ b.day
  pub from : r.from ≡ b.stop
  pub to : r.to ≡ a.stop
  pub departure : r.departure ≡ b.departure
  pub arrival : r.arrival ≡ a.arrival
  pub board : r.board_request ≡ b.board_request
  pub alight : r.alight_request ≡ a.alight_request

-- j goes from its origin to the call b, and from the call a to its target. Leave is the departure less the walk, and at least 0, so one
-- can't board before the walk from 0 is done; arrival is that of a and the target's walk (RULES 8.3)
pub record Between (F : Feed) (b a : Call) (j : Journey) : Type 0 where
  pub origin : j.origin < F.settings.origins
  pub target : j.target < F.settings.targets
  pub from : Member F.stops b.stop j.origin
  pub to : Member F.stops a.stop (4 + j.target)
  pub walk : j.walk ≡ get_or F.settings.origin_walks j.origin 0
  pub leave : j.leave + j.walk * 60 ≡ b.departure
  pub arrival : j.arrival ≡ a.arrival + get_or F.settings.target_walks j.target 0 * 60

-- j is admitted, by one ride
pub record Direct (F : Feed) (j : Journey) : Type 0 where
  pub b : Call
  pub a : Call
  pub leg : Leg F b a
  pub between : Between F b a j
  pub rides : j.rides ≡ 1
  pub first : IsRide b a j.first
  -- a journey of one ride has no last and no middle, one of two no middle; what the record has there is `no_ride`
  pub middle : j.middle ≡ no_ride
  pub last : j.last ≡ no_ride

-- by two, from b to a and from c to d
pub record Changing (F : Feed) (j : Journey) : Type 0 where
  pub b : Call
  pub a : Call
  pub c : Call
  pub d : Call
  pub may : 1 ≤ F.settings.max_transfers
  pub leg : Leg F b a
  pub leg' : Leg F c d
  pub joins : Joins F a c
  pub between : Between F b d j
  pub rides : j.rides ≡ 2
  pub first : IsRide b a j.first
  pub middle : j.middle ≡ no_ride
  pub last : IsRide c d j.last

-- by three, the middle one from c to d and the last from e to g; first and last may be of one trip and day
pub record Through (F : Feed) (j : Journey) : Type 0 where
  pub b : Call
  pub a : Call
  pub c : Call
  pub d : Call
  pub e : Call
  pub g : Call
  pub may : 2 ≤ F.settings.max_transfers
  pub leg : Leg F b a
  pub leg' : Leg F c d
  pub leg'' : Leg F e g
  pub joins : Joins F a c
  pub joins' : Joins F d e
  pub between : Between F b g j
  pub rides : j.rides ≡ 3
  pub first : IsRide b a j.first
  pub middle : IsRide c d j.middle
  pub last : IsRide e g j.last

-- j is admitted (RULES 8.3)
abbrev pub Admits : Feed → Journey → Type 0
Admits F j = Direct F j ⊎ (Changing F j ⊎ Through F j)
