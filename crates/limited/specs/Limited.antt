-- A search within a limit on joins, from the timetable, its horizon and its mark. A timetable with max_transfers above 1 has no such
-- search: "With `max_transfers` 2 a limited search meets 1".
use Rattle.std.specs.Prelude.{◌≡◌, ◌↔◌, Bool, true, cond, ℕ, ◌*◌, ◌≤◌, min, eqb, pos, length, Some}
use mathlib.Core.List.{List, [], Memᴰ, Permᴰ}
use Rattle.laws.specs.Lists.{filterb}
use Rattle.ways.specs.Rides.{rides, first_rides}
use Rattle.calls.specs.declared.Call.{Call}
use Rattle.profile.specs.declared.Journey.{Journey}
use Rattle.profile.specs.Figures.{covᶠ, dueᶠ}
use Rattle.profile.specs.Kept.{searched}
use Rattle.profile.specs.Front.{front}
use Rattle.profile.specs.Fall.{fall}
use Rattle.profile.specs.Best.{bestℤ}
use Rattle.profile.specs.Journeys.{journey_figures}
use Rattle.offers.specs.Order.{clashes}
use Rattle.offers.specs.Offers.{Timetable, with_calls, network_of, direct_by, change_by, sorted, offers}
use Rattle.offers.specs.Admitted.{Rides, Starts, Clear}
use Rattle.offers.specs.Search.{Outcome, clashing, found, found_by, ends_by_of, search_of}
use Rattle.counted.specs.Events.{Event, joins_of, offers_of, joins_in, up_to, finished}
use Rattle.counted.specs.Joins.{Join, events}
use Rattle.profile.specs.Sizes.{kept_room, least_horizon}

-- the events of a search of the timetable
unfoldable pub events_of : Timetable → List (Event (Join Call) Journey)
events_of t = events (network_of t) (direct_by t) (change_by t) t.max_transfers (sorted t)

-- the journeys offered before the first join past the limit n, how many joins were tested, and whether none is left
unfoldable pub offers_within : ℕ → Timetable → List Journey
offers_within n t = offers_of (up_to n (events_of t))

unfoldable pub joins_within : ℕ → Timetable → ℕ
joins_within n t = joins_in (up_to n (events_of t))

unfoldable pub finished_within : ℕ → Timetable → Bool
finished_within n t = finished n (events_of t)

-- what it answers: these offers in order, from the horizon h and the mark l
unfoldable pub search_within : ℕ → Timetable → ℕ → ℕ → Outcome
search_within n t h l =
    cond (clashes (sorted t)) clashing (found_by (searched journey_figures kept_room least_horizon h l (offers_within n t)))

-- how many joins there are: first rides, one for each of their origins, times rides
unfoldable pub all_joins : Timetable → ℕ
all_joins t = cond (eqb t.max_transfers 1) (length (first_rides (network_of t) (sorted t)) * length (rides (network_of t) (sorted t))) 0

-- ---- what is claimed

-- at most one change
abbrev pub OneChange : Timetable → Type 0
OneChange t = t.max_transfers ≤ 1

-- the offers among the events are the offers of a full search, in order
abbrev pub EventOffers : Type 0
EventOffers = (t : Timetable) → OneChange t → offers_of (events_of t) ≡ offers t

-- a join pairs a first ride, of each origin whose walk is met, with any ride, at a target or not, its own trip and itself included
pub record Pairs (t : Timetable) (j : Join Call) : Type 0 where
  pub first : Rides t.calls j.first.ride.b j.first.ride.a
  pub starts : Starts t j.first.ride.b j.first.o
  pub last : Rides t.calls j.last.b j.last.a

abbrev pub EventJoins : Type 0
EventJoins = (t : Timetable) → Clear t → t.max_transfers ≡ 1 → (j : Join Call) → Memᴰ j (joins_of (events_of t)) ↔ Pairs t j

-- the count is that of all joins, or the limit; finished exactly if all joins are within the limit
abbrev pub CountWithin : Type 0
CountWithin = (n : ℕ) (t : Timetable) → joins_within n t ≡ min n (all_joins t)

abbrev pub FinishedWithin : Type 0
FinishedWithin = (n : ℕ) (t : Timetable) → (finished_within n t ≡ true) ↔ (all_joins t ≤ n)

-- with max_transfers 0 there is no join, and every search is finished
abbrev pub NoChange : Type 0
NoChange = (n : ℕ) (t : Timetable) → t.max_transfers ≡ 0 → (joins_within n t ≡ 0) × (finished_within n t ≡ true)

-- a finished search answers as the full search
abbrev pub FinishedIsFull : Type 0
FinishedIsFull = (n : ℕ) (t : Timetable) (h l : ℕ) → OneChange t → finished_within n t ≡ true → search_within n t h l ≡ search_of t h l

-- list, horizon and mark, or 11, come from the offers before the stop alone
abbrev pub WithinByOffers : Type 0
WithinByOffers = (n : ℕ) (t : Timetable) (h l : ℕ)
    → search_within n t h l ≡ cond (clashes (sorted t)) clashing
    (ends_by_of (offers_within n t) (fall (covᶠ journey_figures) (dueᶠ journey_figures) kept_room least_horizon h l [] (offers_within n t)))

-- at most 8 unbeaten journeys share an arrival: of one ride or two, from at most four origins
abbrev pub EightTogether : Type 0
EightTogether = (n : ℕ) (t : Timetable) (h a : ℕ)
    → length (filterb (λ (j : Journey). eqb j.arrival a) (front (covᶠ journey_figures) (dueᶠ journey_figures) h (offers_within n t))) ≤ 8

-- "Where neither run is refused, a larger limit never turns an answer for second 0 into none or into a later arrival"
abbrev pub LargerNeverLater : Type 0
LargerNeverLater = (n m : ℕ) (t : Timetable) (h₀ l₀ : ℕ) (ks ks' : List Journey) (h h' l l' : ℕ) → n ≤ m
    → search_within n t h₀ l₀ ≡ found ks h l → search_within m t h₀ l₀ ≡ found ks' h' l'
    → (j : Journey) → bestℤ journey_figures ks h (pos 0) ≡ Some j
    → (j' : Journey) × (bestℤ journey_figures ks' h' (pos 0) ≡ Some j') × (j'.arrival ≤ j.arrival)

-- a search within a limit doesn't depend on the order in which the calls were taken
pub record WithinSame (n : ℕ) (t u : Timetable) (h l : ℕ) : Type 0 where
  pub outcome : search_within n t h l ≡ search_within n u h l
  pub joins : Clear t → joins_within n t ≡ joins_within n u
  pub finishes : Clear t → finished_within n t ≡ finished_within n u

abbrev pub WithinInAnyOrder : Type 0
WithinInAnyOrder = (n : ℕ) (t : Timetable) (ys : List Call) (h l : ℕ) → Permᴰ t.calls ys → WithinSame n t (with_calls t ys) h l
