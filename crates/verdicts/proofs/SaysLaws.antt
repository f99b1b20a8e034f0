-- What is said by a list in which some journey equals or beats the one judged.
use mathlib.Core.Path.{◌≡◌, refl, sym, ap, subst, ◌∙◌}
use mathlib.Core.Logic.{◌⊎◌, inl, inr}
use mathlib.Core.Bool.{Bool, true, false, cond, ◌&&◌, true≢false}
use mathlib.Core.List.Memᴰ
use mathlib.Core.List.{List, [], ◌∷◌, Memᴰ}
use Prim.Native.Nat.{ℕ, suc, ◌+◌, ◌<◌}
use native.Mathlib.Omega.{arith}
use lib.Dec.{eqb}
use lib.ListN.{length}
use Rattle.std.specs.Prelude.{None, Option, Some}
use Rattle.std.specs.List.{position_from}
use Rattle.laws.proofs.Options.{some-injective, none-ne-some, some-ne-none}
use Rattle.profile.specs.declared.Journey.{Journey}
use Rattle.profile.specs.declared.figures.Figures.{Figures}
use Rattle.profile.specs.Figures.{covers, covᶠ}
use Rattle.profile.specs.Journeys.{journey_figures}
use Rattle.listing.specs.declared.Verdict.TheVariants.{Listed, AsGood, Beaten, Uncovered}
use Rattle.listing.specs.Same.{same_figures, same_journey}
use Rattle.listing.specs.Listed.{place_of, place_as_good, place_over, by_place, listed_in_of}
use Rattle.listing.proofs.SameLaws.{figures-is, figures-same, same-is}
use Rattle.verdicts.specs.Claims.{placed, Says, listed, as_good, beaten}

-- ---- places

module _ (p : Journey → Bool) where
  -- one of the list stands at a place and passes
  record Stands (i n : ℕ) (ks : List Journey) : Type 0 where
    m : ℕ
    is : n ≡ i + m
    there : m < length ks
    passes : p (placed ks m) ≡ true

  place-some : (i n : ℕ) (ks : List Journey) → position_from p i ks ≡ Some n → Stands i n ks
  place-some i n [] e = absurd (none-ne-some n e)
  place-some i n (k ∷ ks) e = go (p k) refl e (place-some (i + 1) n ks)
    where
      go : (b : Bool) → p k ≡ b → cond b (Some i) (position_from p (i + 1) ks) ≡ Some n
          → (position_from p (i + 1) ks ≡ Some n → Stands (i + 1) n ks)
          → Stands i n (k ∷ ks)
      go true q f ih = record { m = 0; is = omega (arith, some-injective i n f); there = omega arith; passes = q }
      go false q f ih = let w = ih f in record { m = suc w.m; is = omega (arith, w.is); there = omega (arith, w.there); passes = w.passes }

  place_none : (i : ℕ) (ks : List Journey) → position_from p i ks ≡ None → (k : Journey) → Memᴰ k ks → p k ≡ false
  place_none i [] e k m = absurd (Memᴰ.not-nil m)
  place_none i (x ∷ ks) e k m = go (p x) refl e (Memᴰ.cases_cons m) (λ f n. place_none (i + 1) ks f k n)
    where
      go : (b : Bool) → p x ≡ b → cond b (Some i) (position_from p (i + 1) ks) ≡ None → (k ≡ x) ⊎ Memᴰ k ks
          → (position_from p (i + 1) ks ≡ None → Memᴰ k ks → p k ≡ false) → p k ≡ false
      go true q f r ih = absurd (some-ne-none i f)
      go false q f (inl r) ih = ap p r ∙ q
      go false q f (inr r) ih = ih f r

  -- the journey at a place
  at_place : (n : ℕ) (ks : List Journey) → position_from p 0 ks ≡ Some n → (n < length ks) × (p (placed ks n) ≡ true)
  at_place n ks e =
      let w = place-some 0 n ks e in
      let same : w.m ≡ n = omega (arith, w.is) in
      (omega (arith, w.there), subst (λ (m : ℕ). p (placed ks m) ≡ true) same w.passes)

-- ---- figures

figures-true : (k j : Journey) → journey_figures k ≡ journey_figures j → same_figures k j ≡ true
unfolding same_figures
figures-true k j e =
    ap (λ (f : Figures). eqb f.leave j.leave && (eqb f.arrival j.arrival && (eqb f.rides j.rides && eqb f.walk j.walk))) e ∙ figures-same j

-- ---- the three verdicts

module _ (ks : List Journey) (j : Journey) where
  abbrev is : Journey → Bool
  is k = same_journey k j

  abbrev good : Journey → Bool
  good k = same_figures k j

  abbrev over : Journey → Bool
  over k = covᶠ journey_figures k j

  pub says : (k : Journey) → Memᴰ k ks → covers (journey_figures k) (journey_figures j) ≡ true → Says ks j (listed_in_of ks j)
  unfolding listed_in_of
  says k m e = go (place_of ks j) (place_as_good ks j) (place_over ks j) refl refl refl
    where
      go : (a b c : Option ℕ) → place_of ks j ≡ a → place_as_good ks j ≡ b → place_over ks j ≡ c
          → Says ks j (by_place Listed a (by_place AsGood b (by_place Beaten c Uncovered)))
      go (Some n) b c ea eb ec = let w = at_place is n ks ea in listed n w.0 ((same-is (placed ks n) j).0 w.1)
      go None (Some n) c ea eb ec =
          let w = at_place good n ks eb in
          let f = figures-is (placed ks n) j w.1 in
          as_good n w.0 (λ i. record { leave = f.leave i; arrival = f.arrival i; rides = f.rides i; walk = f.walk i })
          (λ q. true≢false (sym (same-is j j).1 ∙ place_none is 0 ks ea j q))
      go None None (Some n) ea eb ec =
          let w = at_place over n ks ec in
          beaten n w.0 w.1 (λ x q f. true≢false (sym (figures-true x j f) ∙ place_none good 0 ks eb x q))
      go None None None ea eb ec = absurd (true≢false (sym e ∙ place_none over 0 ks ec k m))
