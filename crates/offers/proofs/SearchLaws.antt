-- What a search found, and the same by the offers alone.
use mathlib.Core.Path.{◌≡◌, refl, ap, ◌∙◌}
use mathlib.Core.Bool.{Bool, true, false, cond}
use mathlib.Core.List.{List, []}
use Prim.Native.Nat.{ℕ}
use native.Mathlib.Omega.{arith}
use Rattle.profile.specs.declared.Journey.{Journey}
use Rattle.profile.specs.Figures.{covᶠ, dueᶠ}
use Rattle.profile.specs.Kept.{SearchState, going, refused, searched}
use Rattle.profile.specs.Fall.{Ends, up_to, never, fall, keeping}
use Rattle.profile.specs.Best.{ordered}
use Rattle.profile.specs.Journeys.{journey_figures}
use Rattle.profile.proofs.ClaimLaws.{search-is-fall}
use Rattle.offers.specs.Order.{clashes}
use Rattle.offers.specs.Offers.{sorted, offers}
use Rattle.offers.specs.Admitted.{Clear}
use Rattle.offers.specs.Search.{Outcome, clashing, found, found_by, ends_by_of, search_of, SearchFound, SearchByOffers}

pub search-found : SearchFound
unfolding search_of
search-found t h₀ l₀ h l ks e = go (clashes (sorted t)) refl (searched journey_figures 64 3600 h₀ l₀ (offers t)) refl e
  where
    go : (b : Bool) → clashes (sorted t) ≡ b → (s : SearchState Journey) → searched journey_figures 64 3600 h₀ l₀ (offers t) ≡ s
        → cond b clashing (found_by s) ≡ found ks h l
        → Clear t × (ks'' : List Journey) × (searched journey_figures 64 3600 h₀ l₀ (offers t) ≡ going ks'' h l)
        × (ks ≡ ordered journey_figures ks'')
    go true p s q r = let z : ◌≡◌ {A = ℕ} 0 1 = cc in absurd (omega arith)
    go false p refused q r = let z : ◌≡◌ {A = ℕ} 0 1 = cc in absurd (omega arith)
    go false p (going ks' h' l') q r = (p, ks', cc, cc)

pub keeping-ends : (os : List Journey) (x : Ends) → found_by (keeping (covᶠ journey_figures) (dueᶠ journey_figures) os x) ≡ ends_by_of os x
keeping-ends os (up_to h l) = refl
keeping-ends os never = refl

pub search-by-offers : SearchByOffers
unfolding search_of
search-by-offers t h l =
    ap (λ (s : SearchState Journey). cond (clashes (sorted t)) clashing (found_by s)) (search-is-fall journey_figures h l (offers t))
    ∙ ap (λ (f : Outcome). cond (clashes (sorted t)) clashing f)
    (keeping-ends (offers t) (fall (covᶠ journey_figures) (dueᶠ journey_figures) 64 3600 h l [] (offers t)))
