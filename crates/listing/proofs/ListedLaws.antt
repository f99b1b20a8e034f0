-- What is said of a journey, by the places of the list that are looked for one after another.
use mathlib.Core.Path.{◌≡◌, sym, ap, ◌∙◌}
use mathlib.Core.List.{List}
use Prim.Native.Nat.{ℕ}
use Rattle.std.specs.Prelude.{None, Option, Some}
use Rattle.profile.specs.declared.Journey.{Journey}
use Rattle.listing.specs.declared.Verdict.{Verdict}
use Rattle.listing.specs.declared.Verdict.TheVariants.{Listed, AsGood, Beaten, Uncovered}
use Rattle.listing.specs.Listed.{place_of, place_as_good, place_over, by_place, listed_in_of}

module _ (said : ℕ → Verdict) (place : Option ℕ) (other : Verdict) where
  by-some : (n : ℕ) → place ≡ Some n → said n ≡ by_place said place other
  by-some n e = sym (ap (λ (o : Option ℕ). by_place said o other) e)

  by-none : place ≡ None → other ≡ by_place said place other
  by-none e = sym (ap (λ (o : Option ℕ). by_place said o other) e)

module _ (ks : List Journey) (j : Journey) where
  pub said-listed : (n : ℕ) → place_of ks j ≡ Some n → Listed n ≡ listed_in_of ks j
  unfolding listed_in_of
  said-listed n e = by-some Listed (place_of ks j) _ n e

  module _ (a : place_of ks j ≡ None) where
    pub said-good : (n : ℕ) → place_as_good ks j ≡ Some n → AsGood n ≡ listed_in_of ks j
    unfolding listed_in_of
    said-good n e = by-some AsGood (place_as_good ks j) _ n e ∙ by-none Listed (place_of ks j) _ a

    module _ (b : place_as_good ks j ≡ None) where
      pub said-beaten : (n : ℕ) → place_over ks j ≡ Some n → Beaten n ≡ listed_in_of ks j
      unfolding listed_in_of
      said-beaten n e =
          by-some Beaten (place_over ks j) _ n e ∙ by-none AsGood (place_as_good ks j) _ b ∙ by-none Listed (place_of ks j) _ a

      pub said-none : place_over ks j ≡ None → Uncovered ≡ listed_in_of ks j
      unfolding listed_in_of
      said-none e =
          by-none Beaten (place_over ks j) _ e ∙ by-none AsGood (place_as_good ks j) _ b ∙ by-none Listed (place_of ks j) _ a
