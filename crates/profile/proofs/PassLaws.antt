-- Offers that change nothing: those to a refused search, and those due too late. And a search seen through a map of its journeys.
use mathlib.Core.Path.{◌≡◌, refl}
use mathlib.Core.Bool.{Bool, true}
use mathlib.Core.List.{List, [], ◌∷◌, Memᴰ}
use Prim.Native.Nat.{ℕ}
use Rattle.laws.specs.Lists.{foldl}
use Rattle.profile.specs.Kept.{SearchState, going, refused, offer, too_late}

module _ {A : Type 0} (cov : A → A → Bool) (due : A → ℕ) (cap floor : ℕ) where
  pub refused-stays : (os : List A) → foldl (offer cov due cap floor) refused os ≡ refused
  refused-stays [] = refl
  refused-stays (o ∷ os) = refused-stays os

  -- an offer that is too late leaves the state as it is
  pub offer-late : (s : SearchState A) (o : A) → too_late s (due o) ≡ true → offer cov due cap floor s o ≡ s
  offer-late (going ks h l) o e = rw e
  offer-late refused o e = refl

  -- so do any number of them
  pub offers-late : (s : SearchState A) (os : List A) → ((o : A) → Memᴰ o os → too_late s (due o) ≡ true)
      → foldl (offer cov due cap floor) s os ≡ s
  offers-late s [] f = refl
  offers-late s (o ∷ os) f = rw (offer-late s o (f o (Memᴰ.head refl))) (offers-late s os (λ x m. f x (Memᴰ.tail m)))
