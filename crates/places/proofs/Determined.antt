-- Of stops with distinct ids what holds of each place determines the places: by induction in the order of ids.
use Prim.Native.Nat.{ℕ, ◌<◌}
use mathlib.Core.Path.{◌≡◌, refl, sym, ap, ap₂, subst, ◌∙◌}
use mathlib.Core.Logic.{◌⊎◌, inl, inr}
use mathlib.Core.Bool.{Bool, true, false, true≢false}
use mathlib.Core.List.Memᴰ
use mathlib.Core.List.{List, [], ◌∷◌, Memᴰ}
use native.Mathlib.Omega.{arith}
use lib.ListN.{length}
use Rattle.laws.specs.Lists.{span}
use Rattle.laws.specs.Order.{less_bytes}
use Rattle.laws.specs.Sort.{Ordered, Strict}
use Rattle.laws.proofs.Order.{by_first-less, by_first-same, tri}
use Rattle.laws.proofs.Sort.{sort-ordered}
use Rattle.stops.specs.declared.Stop.{Stop}
use Rattle.stops.specs.Stops.{id_of}
use Rattle.stops.specs.Sound.{stop_at}
use Rattle.places.specs.Places.{has_key, id_less, id_order}
use Rattle.places.specs.Promises.{place_at, PlaceRight, PlacesRight, Distinct, OnlyPlaces}
use Rattle.places.proofs.Numbers.{order_below}
use Rattle.places.proofs.Claims.{strict-ids, in_order, every-place}

-- byte strings of which neither is before the other are equal
pub bytes-equal : (a b : List ℕ) → less_bytes a b ≡ false → less_bytes b a ≡ false → a ≡ b
bytes-equal [] [] p q = refl
bytes-equal [] (y ∷ b) p q = absurd (true≢false p)
bytes-equal (x ∷ a) [] p q = absurd (true≢false q)
bytes-equal (x ∷ a) (y ∷ b) p q = go (tri x y) (bytes-equal a b)
  where
    go : (x < y) ⊎ ((x ≡ y) ⊎ (y < x)) → (less_bytes a b ≡ false → less_bytes b a ≡ false → a ≡ b) → ◌≡◌ {A = List ℕ} (x ∷ a) (y ∷ b)
    go (inl h) ih = absurd (true≢false (sym (by_first-less x y _ h) ∙ p))
    go (inr (inl h)) ih =
        ap₂ {B = List ℕ} {C = List ℕ} (λ (z : ℕ) r. z ∷ r) h
        (ih (sym (by_first-same x y _ (omega arith) (omega arith)) ∙ p) (sym (by_first-same y x _ (omega arith) (omega arith)) ∙ q))
    go (inr (inr h)) ih = absurd (true≢false (sym (by_first-less y x _ h) ∙ q))

-- induction along a list in order
module _ (P : ℕ → Type 0) (lt : ℕ → ℕ → Bool) (o : Strict lt) where
  rise : (l : List ℕ) → ((k : ℕ) → Memᴰ k l → ((j : ℕ) → Memᴰ j l → lt j k ≡ true → P j) → P k)
      → (left : List ℕ) → Ordered lt left → ((j : ℕ) → Memᴰ j left → Memᴰ j l) → ((j : ℕ) → Memᴰ j l → Memᴰ j left ⊎ P j)
      → (k : ℕ) → Memᴰ k left → P k
  rise l step [] w sub f k m = absurd (Memᴰ.not-nil m)
  rise l step (i ∷ left) w sub f k m = go (Memᴰ.cases_cons m) (λ g n. rise l step left w.1 (λ j n'. sub j (Memᴰ.tail n')) g k n)
    where
      before : (j : ℕ) → lt j i ≡ true → Memᴰ j (i ∷ left) ⊎ P j → P j
      before j t (inr p) = p
      before j t (inl n) = in_left (Memᴰ.cases_cons n)
        where
          in_left : (j ≡ i) ⊎ Memᴰ j left → P j
          in_left (inl e) =
              absurd (true≢false (sym t ∙ o.asym i j (subst (λ (x : ℕ). lt x j ≡ true) e (subst (λ (x : ℕ). lt j x ≡ true) (sym e) t))))
          in_left (inr n') = absurd (true≢false (sym t ∙ w.0 j n'))

      here : P i
      here = step i (sub i (Memᴰ.head refl)) (λ j n t. before j t (f j n))

      after : (j : ℕ) → Memᴰ j (i ∷ left) ⊎ P j → Memᴰ j left ⊎ P j
      after j (inr p) = inr p
      after j (inl n) = split (Memᴰ.cases_cons n)
        where
          split : (j ≡ i) ⊎ Memᴰ j left → Memᴰ j left ⊎ P j
          split (inl e) = inr (subst P (sym e) here)
          split (inr n') = inl n'

      go : (k ≡ i) ⊎ Memᴰ k left → (((j : ℕ) → Memᴰ j l → Memᴰ j left ⊎ P j) → Memᴰ k left → P k) → P k
      go (inl e) ih = subst P (sym e) here
      go (inr n) ih = ih (λ j n'. after j (f j n')) n

module _ (ss : List Stop) (distinct : Distinct ss) where
  -- stops of which neither is before the other are one
  pub one-stop : (j k : ℕ) → j < length ss → k < length ss → id_less ss j k ≡ false → id_less ss k j ≡ false → j ≡ k
  unfolding id_less
  one-stop j k hj hk p q = distinct j k hj hk (bytes-equal (id_of (stop_at ss j)) (id_of (stop_at ss k)) p q)

  -- where two ways to give places agree on the stops before k, the second's place of k is not below the first's
  not-below : (f g : ℕ → ℕ) (k : ℕ) → k < length ss → PlaceRight ss f k (f k) → PlaceRight ss g k (g k)
      → ((j : ℕ) → j < length ss → has_key ss j ≡ true → id_less ss j k ≡ true → f j ≡ g j) → id_less ss (g k) (f k) ≡ false
  not-below f g k h wf wg same = go (id_less ss (g k) k) refl
    where
      go : (b : Bool) → id_less ss (g k) k ≡ b → id_less ss (g k) (f k) ≡ false
      go true t = wf.least (g k) wg.known wg.keyed (same (g k) wg.known wg.keyed t ∙ wg.own) wg.matches
      go false t = ap (λ (x : ℕ). id_less ss x (f k)) (one-stop (g k) k wg.known h t wg.before) ∙ wf.before

pub only-places : OnlyPlaces
unfolding id_order
only-places ss few distinct p right k h t =
    rise (λ (j : ℕ). has_key ss j ≡ true → p j ≡ place_at ss j) (id_less ss) (strict-ids ss) (id_order ss) step (id_order ss)
    (sort-ordered (id_less ss) (strict-ids ss) (span 0 (length ss))) (λ j m. m) (λ j m. inl m) k (in_order ss few k h) t
  where
    every : PlacesRight ss (place_at ss)
    every = every-place ss few

    step : (k : ℕ) → Memᴰ k (id_order ss)
        → ((j : ℕ) → Memᴰ j (id_order ss) → id_less ss j k ≡ true → has_key ss j ≡ true → p j ≡ place_at ss j)
        → has_key ss k ≡ true → p k ≡ place_at ss k
    step k m ih t =
        let h : k < length ss = order_below ss m in
        let v = right k h t in
        let w = every k h t in
        let same : (j : ℕ) → j < length ss → has_key ss j ≡ true → id_less ss j k ≡ true → p j ≡ place_at ss j =
        λ j hj tj l. ih j (in_order ss few j hj) l tj in
        one-stop ss distinct (p k) (place_at ss k) v.known w.known
        (not-below ss distinct (place_at ss) p k h w v (λ j hj tj l. sym (same j hj tj l)))
        (not-below ss distinct p (place_at ss) k h v w same)
