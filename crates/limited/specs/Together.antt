-- The full search, of one ride, two or three: few journeys arrive together, so that a cut of the horizon never empties the list (request
-- 10).
use Rattle.std.specs.Prelude.{◌≡◌, ℕ, ◌≤◌, eqb, length}
use mathlib.Core.List.{List, Memᴰ}
use Rattle.laws.specs.Lists.{filterb}
use Rattle.profile.specs.declared.Journey.{Journey}
use Rattle.offers.specs.Offers.{Timetable}
use Rattle.offers.specs.Admitted.{Admitted}
use Rattle.offers.specs.Search.{found, search_of}

-- at most 12 kept journeys share an arrival: of one ride, two or three, from at most four origins
abbrev pub TwelveTogether : Type 0
TwelveTogether = (t : Timetable) (h₀ l₀ : ℕ) (ks : List Journey) (h l : ℕ) → search_of t h₀ l₀ ≡ found ks h l
    → (a : ℕ) → length (filterb (λ (k : Journey). eqb k.arrival a) ks) ≤ 12

-- so a cut never empties the list: of each admitted journey due by the horizon that the search started from, one is kept that arrives no
-- later
abbrev pub CutsLeaveSome : Type 0
CutsLeaveSome = (t : Timetable) (h₀ l₀ : ℕ) (ks : List Journey) (h l : ℕ) → search_of t h₀ l₀ ≡ found ks h l
    → (j : Journey) → Admitted t j → j.arrival ≤ h₀ → (k : Journey) × Memᴰ k ks × (k.arrival ≤ j.arrival)
