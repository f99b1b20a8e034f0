-- Functions that agree on the members of a list give the same flat list of it, and the same beginning.
use mathlib.Core.Path.{◌≡◌, refl}
use mathlib.Core.Logic.{◌⊎◌, inl, inr}
use mathlib.Core.Bool.{Bool, true, false, cond}
use mathlib.Core.List.Memᴰ
use mathlib.Core.List.{List, [], ◌∷◌, Memᴰ}
use Prim.Native.Nat.{ℕ, ◌-◌, ◌<◌}
use native.Mathlib.Omega.{arith}
use Rattle.laws.specs.Lists.{concat_map, take_while, span}
use Rattle.laws.proofs.Folds.{span-mem}

module _ {A B : Type 0} where
  pub concat_map-agree : (f g : B → List A) (xs : List B) → ((x : B) → Memᴰ x xs → f x ≡ g x) → concat_map f xs ≡ concat_map g xs
  concat_map-agree f g [] e = refl
  concat_map-agree f g (x ∷ xs) e = rw (e x (Memᴰ.head refl), concat_map-agree f g xs (λ y m. e y (Memᴰ.tail m)))

module _ {B : Type 0} where
  pub take_while-agree : (p q : B → Bool) (xs : List B) → ((x : B) → Memᴰ x xs → p x ≡ q x) → take_while p xs ≡ take_while q xs
  take_while-agree p q [] e = refl
  take_while-agree p q (x ∷ xs) e = rw (e x (Memᴰ.head refl), take_while-agree p q xs (λ y m. e y (Memᴰ.tail m)))

  pub take_while-member : (p : B → Bool) (xs : List B) {y : B} → Memᴰ y (take_while p xs) → Memᴰ y xs
  take_while-member p [] m = m
  take_while-member p (x ∷ xs) {y} m = go (p x) (λ n. take_while-member p xs n) m
    where
      later : (Memᴰ y (take_while p xs) → Memᴰ y xs) → (y ≡ x) ⊎ Memᴰ y (take_while p xs) → Memᴰ y (x ∷ xs)
      later ih (inl e) = Memᴰ.head e
      later ih (inr n) = Memᴰ.tail (ih n)

      go : (b : Bool) → (Memᴰ y (take_while p xs) → Memᴰ y xs) → Memᴰ y (cond b (x ∷ take_while p xs) []) → Memᴰ y (x ∷ xs)
      go true ih n = later ih (Memᴰ.cases_cons n)
      go false ih n = absurd (Memᴰ.not-nil n)

-- the numbers from i up to n are below n
pub span_below : (i n : ℕ) {k : ℕ} → Memᴰ k (span i (n - i)) → k < n
span_below i n m = let (p, q) = span-mem i (n - i) m in omega arith
