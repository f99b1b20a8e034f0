-- The margin of a stopped search's answer for second 0: "its arrival less the earliest arrival, walk included, of any ride in the table
-- at a target, and the finished answer, where the full search is accepted, is at most that much earlier. With nothing found yet there is
-- no margin."
use Rattle.std.specs.Prelude.{◌≡◌, cond, List, [], ◌∷◌, map, ℕ, ◌+◌, ◌-◌, ◌≤◌, min, pos, None, Option, Some}
use Rattle.laws.specs.Lists.{concat_map}
use Rattle.ways.specs.Rides.{rides}
use Rattle.calls.specs.declared.Call.{Call}
use Rattle.profile.specs.declared.Journey.{Journey}
use Rattle.profile.specs.Best.{bestℤ}
use Rattle.profile.specs.Journeys.{journey_figures}
use Rattle.offers.specs.Offers.{Timetable, arrival_of, network_of, sorted}
use Rattle.offers.specs.Admitted.{Rides, Ends, Clear}
use Rattle.offers.specs.Search.{Outcome, clashing, falling, found, search_of}
use Rattle.limited.specs.Limited.{OneChange, finished_within, search_within}

-- where each ride of the table alights
unfoldable pub alightings : Timetable → List Call
alightings t = map (λ r. r.a) (rides (network_of t) (sorted t))

-- when it arrives, walk included, at each target of that stop
unfoldable pub target_arrivals : Timetable → List ℕ
target_arrivals t = concat_map (λ a. map (λ k. arrival_of t k a.arrival) ((network_of t).targets a)) (alightings t)

-- the least of a list; 0 of none
abbrev pub least_of : List ℕ → ℕ
least_of [] = 0
least_of (x ∷ []) = x
least_of (x ∷ y ∷ ys) = min x (least_of (y ∷ ys))

unfoldable pub earliest : Timetable → ℕ
earliest t = least_of (target_arrivals t)

-- the answer for second 0
abbrev pub answer_at0 : Outcome → Option Journey
answer_at0 clashing = None
answer_at0 falling = None
answer_at0 (found ks h l) = bestℤ journey_figures ks h (pos 0)

-- its arrival less the earliest; none where there is no answer
abbrev pub margin_of : Timetable → Option Journey → Option ℕ
margin_of t None = None
margin_of t (Some j) = Some (j.arrival - earliest t)

-- the margin of a search within a limit; none where it is finished
unfoldable pub margin_within : ℕ → Timetable → ℕ → ℕ → Option ℕ
margin_within n t h l = cond (finished_within n t) None (margin_of t (answer_at0 (search_within n t h l)))

-- ---- what is claimed

-- e is the earliest arrival, walk included, of any ride of the table at a target, whether or not it boards at an origin
pub record Earliest (t : Timetable) (e : ℕ) : Type 0 where
  pub b : Call
  pub a : Call
  pub k : ℕ
  pub ride : Rides t.calls b a
  pub ends : Ends t a k
  pub arrives : arrival_of t k a.arrival ≡ e
  pub least : (c d : Call) (i : ℕ) → Rides t.calls c d → Ends t d i → e ≤ arrival_of t i d.arrival

-- that is what the margin reads, where some ride alights at a target
abbrev pub EarliestIs : Type 0
EarliestIs = (t : Timetable) → Clear t → (b a : Call) (k : ℕ) → Rides t.calls b a → Ends t a k → Earliest t (earliest t)

-- where a search has an answer, some ride alights at a target, and the answer arrives no earlier
abbrev pub AnswerAfter : Type 0
AnswerAfter = (n : ℕ) (t : Timetable) (h l : ℕ) (j : Journey) → answer_at0 (search_within n t h l) ≡ Some j
    → Earliest t (earliest t) × (earliest t ≤ j.arrival)

-- a search with the margin m: it has an answer j; where the full search is accepted, its answer is there, no later, and at most m earlier
abbrev pub WithinMargin : Type 0
WithinMargin = (n : ℕ) (t : Timetable) (h₀ l₀ m : ℕ) (ks : List Journey) (h l : ℕ) → OneChange t
    → margin_within n t h₀ l₀ ≡ Some m → search_of t h₀ l₀ ≡ found ks h l
    → (j : Journey) × (j' : Journey) × (answer_at0 (search_within n t h₀ l₀) ≡ Some j) × (bestℤ journey_figures ks h (pos 0) ≡ Some j')
    × (j'.arrival ≤ j.arrival) × (j.arrival ≤ j'.arrival + m)
