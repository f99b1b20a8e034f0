-- What a search answers, from the timetable, its horizon and its mark: "Search 15, 14, 11"; that a load is searched once (15) is not
-- asked here.
use Rattle.refusal.specs.First.{Answer}
use Rattle.refusal.specs.declared.Accepted.TheVariants.{Taken}
use Rattle.std.specs.Prelude.{◌≡◌, cond, ℕ, Err, Ok}
use mathlib.Core.List.{List, [], Permᴰ}
use Rattle.refusal.specs.declared.Refusal.TheVariants.{Neighbours, NoRoom}
use Rattle.calls.specs.declared.Call.{Call}
use Rattle.profile.specs.declared.Journey.{Journey}
use Rattle.profile.specs.Figures.{covᶠ, dueᶠ}
use Rattle.profile.specs.Kept.{SearchState, going, refused, searched}
use Rattle.profile.specs.Front.{front}
use Rattle.profile.specs.Fall.{Ends, up_to, never, fall}
use Rattle.profile.specs.Best.{ordered}
use Rattle.profile.specs.Journeys.{journey_figures}
use Rattle.offers.specs.Order.{clashes}
use Rattle.offers.specs.Offers.{Timetable, with_calls, sorted, offers}
use Rattle.offers.specs.Admitted.{Clear}
use Rattle.profile.specs.Sizes.{kept_room, least_horizon}

-- neighbours clash; the horizon would fall below 3600; or the journeys kept, in list order, the horizon and the mark
pub data Outcome : Type 0 where
  clashing : Outcome
  falling : Outcome
  found : List Journey → ℕ → ℕ → Outcome

-- 14, 11, or taken
abbrev pub answer_of : Outcome → Answer
answer_of clashing = Err Neighbours
answer_of falling = Err NoRoom
answer_of (found ks h l) = Ok Taken

-- what is kept, by arrival, rides and walk, least first, then latest leave
abbrev pub found_by : SearchState Journey → Outcome
found_by refused = falling
found_by (going ks h l) = found (ordered journey_figures ks) h l

-- every offer in order, from the horizon h and the mark l
unfoldable pub search_of : Timetable → ℕ → ℕ → Outcome
search_of t h l = cond (clashes (sorted t)) clashing (found_by (searched journey_figures kept_room least_horizon h l (offers t)))

-- ---- what is claimed

-- a search that found something met no clash, and made every offer; its list is what was kept, put in order
abbrev pub SearchFound : Type 0
SearchFound = (t : Timetable) (h₀ l₀ h l : ℕ) (ks : List Journey) → search_of t h₀ l₀ ≡ found ks h l
    → Clear t × (ks' : List Journey) × (searched journey_figures kept_room least_horizon h₀ l₀ (offers t) ≡ going ks' h l)
    × (ks ≡ ordered journey_figures ks')

-- the same by the offers alone: no list is kept
abbrev pub ends_by_of : List Journey → Ends → Outcome
ends_by_of os never = falling
ends_by_of os (up_to h l) = found (ordered journey_figures (front (covᶠ journey_figures) (dueᶠ journey_figures) h os)) h l

abbrev pub SearchByOffers : Type 0
SearchByOffers = (t : Timetable) (h l : ℕ)
    → search_of t h l ≡ cond (clashes (sorted t)) clashing
    (ends_by_of (offers t) (fall (covᶠ journey_figures) (dueᶠ journey_figures) kept_room least_horizon h l [] (offers t)))

-- the outcome doesn't depend on the order in which the calls were taken
abbrev pub SearchInAnyOrder : Type 0
SearchInAnyOrder = (t : Timetable) (ys : List Call) (h l : ℕ) → Permᴰ t.calls ys → search_of t h l ≡ search_of (with_calls t ys) h l
