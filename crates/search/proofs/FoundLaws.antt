-- The calls of a load in order, and the load that holds the rows of a state: what a search finds, in full or within a limit.
use Prim.Native.Nat.{ℕ, min}
use mathlib.Core.Path.{◌≡◌, sym, ap, subst, ◌∙◌}
use Rattle.std.specs.Prelude.{true, Option}
use mathlib.Core.List.{List, map, Memᴰ}
use native.Mathlib.Omega.{arith}
use lib.ListN.{length, take, length-map}
use Rattle.laws.specs.Lists.{padded}
use Rattle.laws.proofs.Bounds.{take_min}
use Rattle.laws.proofs.Sort.{length-sort, sort-mem}
use Rattle.calls.specs.declared.Call.{Call}
use Rattle.calls.specs.Tables.{blank_call}
use Rattle.profile.specs.Found.{Row}
use Rattle.profile.specs.declared.Journey.{Journey}
use Rattle.profile.specs.Best.{sooner, ordered}
use Rattle.profile.specs.Journeys.{no_journey, journey_figures, row_figures}
use Rattle.profile.specs.Kept.{going, searched}
use Rattle.profile.proofs.ClaimLaws.{kept-is-front, front-unbeaten, ordered-maps}
use Rattle.search_state.specs.View.{view, count_of, kept_of}
use Rattle.search_state.proofs.ViewLaws.{view-parts}
use Rattle.offers.specs.Order.{sort_first}
use Rattle.offers.specs.Offers.{sorted}
use Rattle.offers.specs.Places.{journey_at, InPlaces}
use Rattle.offers.proofs.OrderLaws.{sorted_front}
use Rattle.offers.proofs.PlacesLaws.{array-in-places, row-figures}
use Rattle.kept_journeys.specs.Kept.{journey_of}
use Rattle.kept_journeys.proofs.KeptLaws.{journeys-right}
use Rattle.load.specs.declared.Load.{Load}
use Rattle.load.specs.Load.{with_seen}
use Rattle.search.specs.Timetable.{timetable_of}
use Rattle.search.specs.Offered.{placed, found_in}
use Rattle.search.specs.Search.{with_found}
use Rattle.search.proofs.SmallLaws.{AllSmall}

-- ---- the calls in order

module _ (l : Load) (cs : List Call) (order : cs ≡ sort_first l.call_count l.calls) (long : length cs ≡ 512) where
  pub in-front : take l.call_count cs ≡ sorted (timetable_of l)
  unfolding timetable_of
  in-front = ap (take l.call_count) order ∙ sorted_front l.call_count l.calls

  pub in-places : InPlaces (timetable_of l) (placed cs) (min l.call_count 512)
  in-places = array-in-places (timetable_of l) cs (min l.call_count 512) blank_call (omega (arith, long))
      (take_min cs l.call_count 512 long ∙ in-front)

-- ---- what is found

-- the rows kept are rows offered
pub kept_small : (os ks : List Row) (h₀ l₀ h m : ℕ) → AllSmall os → searched row_figures 64 3600 h₀ l₀ os ≡ going ks h m → AllSmall ks
kept_small os ks h₀ l₀ h m small v r i = small r
    (front-unbeaten row_figures h os r (subst (Memᴰ r) (kept-is-front row_figures h₀ l₀ os ks h m v).0 i)).0

-- the load with these calls and journeys, searched
abbrev holding : Load → List Call → List Journey → ℕ → ℕ → ℕ → Option ℕ → Load
holding l c j k h m n =
    with_seen l (record { calls = c; count = l.call_count; horizon = l.table_horizon; limits = l.table_limits })
    (record { journeys = j; count = k; horizon = h; limits = m; searched = true; limit = n })

-- the journeys of the rows kept, in list order
pub holds-found : (l : Load) (cs : List Call) (order : cs ≡ sort_first l.call_count l.calls) (st : List ℕ) (ks : List Row) (h m : ℕ)
    → view st ≡ going ks h m → AllSmall ks → (n : Option ℕ)
    → found_in l cs st n ≡ with_found l (ordered journey_figures (map (journey_at (placed cs)) ks)) h m n
holds-found l cs order st ks h m g small n =
    let (o, c, k, eh, em) = view-parts st ks h m g in
    let right : map (journey_of cs) (ordered row_figures (kept_of st)) ≡ ordered journey_figures (map (journey_at (placed cs)) ks) =
    ap (λ (rs : List Row). map (journey_of cs) (ordered row_figures rs)) k
    ∙ journeys-right cs (ordered row_figures ks) (λ r i. small r (sort-mem (sooner row_figures) ks i))
    ∙ ordered-maps (journey_at (placed cs)) row_figures journey_figures ks (λ r i. row-figures (placed cs) r) in
    let count : count_of st ≡ length (ordered journey_figures (map (journey_at (placed cs)) ks)) =
    c ∙ sym (length-map ks (journey_at (placed cs))) ∙ sym (length-sort (sooner journey_figures) (map (journey_at (placed cs)) ks)) in
    λ i. holding l (order i) (padded no_journey 64 (right i)) (count i) (eh i) (em i) n
