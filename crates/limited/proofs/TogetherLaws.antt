-- The offers of a full search are of twelve kinds, by rides and origin.
use mathlib.Core.Path.{◌≡◌, refl, sym, ap, subst, ◌∙◌}
use mathlib.Core.Logic.{inl, inr}
use mathlib.Core.Bool.{Bool, true, false, cond}
use mathlib.Core.List.Permᴰ
use mathlib.Core.List.{List, ◌∷◌, Memᴰ, Permᴰ}
use Prim.Native.Nat.{suc}
use native.Mathlib.Omega.{arith}
use lib.Dec.{eqb}
use lib.ListN.{length}
use Rattle.laws.specs.Lists.{filterb}
use Rattle.laws.proofs.Sort.{perm-mem}
use Rattle.profile.specs.declared.Journey.{Journey}
use Rattle.profile.specs.Best.{sooner}
use Rattle.profile.specs.Journeys.{journey_figures}
use Rattle.profile.proofs.ClaimLaws.{kept-is-front, put-in-order}
use Rattle.offers.specs.Offers.{Timetable, offers}
use Rattle.offers.specs.Admitted.{Admitted, Clear}
use Rattle.offers.proofs.OfferLaws.{offers-admitted}
use Rattle.offers.proofs.SearchLaws.{search-found}
use Rattle.limited.specs.Growth.{Kinds}
use Rattle.limited.specs.Together.{TwelveTogether, CutsLeaveSome}
use Rattle.limited.proofs.GrowthLaws.{few-together, never-emptied}
use Rattle.limited.proofs.LimitLaws.{kind, Kind, kinds}

-- ---- a list in another order has as many of each sort

module _ {A : Type 0} (p : A → Bool) where
  same_count : {xs ys : List A} → Permᴰ xs ys → length (filterb p xs) ≡ length (filterb p ys)
  same_count Permᴰ.nil = refl
  same_count (Permᴰ.cons {a = x} {b = y} {l₁ = xs} {l₂ = ys} e q) =
      ap (λ (b : Bool). length (cond b (x ∷ filterb p xs) (filterb p xs))) (ap p e) ∙ go (p y) (same_count q)
    where
      go : (b : Bool) → length (filterb p xs) ≡ length (filterb p ys)
          → length (cond b (x ∷ filterb p xs) (filterb p xs)) ≡ length (cond b (y ∷ filterb p ys) (filterb p ys))
      go true ih = ap suc ih
      go false ih = ih
  same_count (Permᴰ.swap {a = x} {b = y} {a' = x'} {b' = y'} {l = l} e f) = rw (e, f) (go (p y') (p x'))
    where
      go : (b c : Bool) → length (cond b (y' ∷ cond c (x' ∷ filterb p l) (filterb p l)) (cond c (x' ∷ filterb p l) (filterb p l)))
          ≡ length (cond c (x' ∷ cond b (y' ∷ filterb p l) (filterb p l)) (cond b (y' ∷ filterb p l) (filterb p l)))
      go true true = refl
      go true false = refl
      go false true = refl
      go false false = refl
  same_count (Permᴰ.trans q r) = same_count q ∙ same_count r

-- ---- twelve kinds

offer-kind : (t : Timetable) (j : Journey) → Admitted t j → Kind 3 t j
offer-kind t j (inl w) =
    rw w.is (record { some-ride = omega arith; rides = omega arith; origin = omega (arith, w.starts.count); walk = refl })
offer-kind t j (inr (inl w)) =
    rw w.is (record { some-ride = omega arith; rides = omega arith; origin = omega (arith, w.starts.count); walk = refl })
offer-kind t j (inr (inr w)) =
    rw w.is (record { some-ride = omega arith; rides = omega arith; origin = omega (arith, w.starts.count); walk = refl })

twelve : (t : Timetable) → Clear t → Kinds journey_figures kind 12 (offers t)
twelve t clear = kinds 3 t (offers t) (λ j m. offer-kind t j ((offers-admitted t clear j).0 m))

pub twelve-together : TwelveTogether
twelve-together t h₀ l₀ ks h l e a =
    let (clear, ks', w, q) = search-found t h₀ l₀ h l ks e in
    let few = few-together journey_figures kind 12 (offers t) (twelve t clear) h a in
    let front-is = (kept-is-front journey_figures h₀ l₀ (offers t) ks' h l w).0 in
    let same = same_count (λ (k : Journey). eqb k.arrival a) (put-in-order journey_figures ks').1 in
    rw (q, same, front-is) few

pub cuts-leave-some : CutsLeaveSome
cuts-leave-some t h₀ l₀ ks h l e j x d =
    let (clear, ks', w, q) = search-found t h₀ l₀ h l ks e in
    let (k, m, le) =
    never-emptied journey_figures kind 12 h₀ l₀ (offers t) ks' h l (omega arith) (twelve t clear) w j ((offers-admitted t clear j).1 x) d in
    (k, subst (Memᴰ k) (sym q) (perm-mem (sooner journey_figures) (Permᴰ.symm (put-in-order journey_figures ks').1) m), le)
