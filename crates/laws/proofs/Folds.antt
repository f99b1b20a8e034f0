-- Left folds over appended lists; flat lists, ranges of numbers and their members.
use mathlib.Core.Path.{◌≡◌, refl, sym, ap, ◌∙◌}
use mathlib.Core.Bool.{true, false}
use mathlib.Core.Logic.{◌⊎◌, inl, inr}
use mathlib.Core.List.Memᴰ
use mathlib.Core.List.{List, [], ◌∷◌, ◌++◌, append_assoc, Memᴰ}
use Prim.Native.Nat.{ℕ, zero, suc, ◌+◌, ◌≤◌, ◌<◌}
use native.Mathlib.Omega.{arith}
use lib.Dec.{leb}
use borrow.Author.Tests.{leb-true, leb-false}
use Rattle.laws.specs.Lists.{foldl, concat_map, span}
use Rattle.laws.proofs.Bools.{test}

module _ {A S : Type 0} where
  pub foldl-append : (f : S → A → S) (s : S) (xs ys : List A) → foldl f s (xs ++ ys) ≡ foldl f (foldl f s xs) ys
  foldl-append f s [] ys = refl
  foldl-append f s (x ∷ xs) ys = foldl-append f (f s x) xs ys

module _ {A B : Type 0} where
  pub concat_map-append : (g : B → List A) (xs ys : List B) → concat_map g (xs ++ ys) ≡ concat_map g xs ++ concat_map g ys
  concat_map-append g [] ys = refl
  concat_map-append g (x ∷ xs) ys =
      ap (λ (r : List A). g x ++ r) (concat_map-append g xs ys) ∙ sym (append_assoc (g x) (concat_map g xs) (concat_map g ys))

-- ---- who is in such a list

module _ {A B : Type 0} where
  pub concat_map-mem : (g : B → List A) {x : A} (ys : List B) → Memᴰ x (concat_map g ys) → (y : B) × Memᴰ y ys × Memᴰ x (g y)
  concat_map-mem g [] m = absurd (Memᴰ.not-nil m)
  concat_map-mem g {x} (y ∷ ys) m = go (Memᴰ.append_cases (g y) m) (λ n. concat_map-mem g ys n)
    where
      go : Memᴰ x (g y) ⊎ Memᴰ x (concat_map g ys) → (Memᴰ x (concat_map g ys) → (z : B) × Memᴰ z ys × Memᴰ x (g z))
          → (z : B) × Memᴰ z (y ∷ ys) × Memᴰ x (g z)
      go (inl n) ih = (y, Memᴰ.head refl, n)
      go (inr n) ih = let (z, i, k) = ih n in (z, Memᴰ.tail i, k)

  pub mem-concat_map : (g : B → List A) {x : A} {y : B} {ys : List B} → Memᴰ y ys → Memᴰ x (g y) → Memᴰ x (concat_map g ys)
  mem-concat_map g {x} (Memᴰ.head {x = z} {xs = zs} e) n = Memᴰ.append_left (concat_map g zs) (rw e at n)
  mem-concat_map g (Memᴰ.tail {x = z} {xs = zs} m) n = Memᴰ.append_right (g z) (mem-concat_map g m n)

pub span-mem : (a n : ℕ) {k : ℕ} → Memᴰ k (span a n) → (a ≤ k) × (k < a + n)
span-mem a zero m = absurd (Memᴰ.not-nil m)
span-mem a (suc n) {k} m = go (Memᴰ.cases_cons m) (λ i. span-mem (suc a) n i)
  where
    go : (k ≡ a) ⊎ Memᴰ k (span (suc a) n) → (Memᴰ k (span (suc a) n) → (suc a ≤ k) × (k < suc a + n)) → (a ≤ k) × (k < a + suc n)
    go (inl e) ih = (omega arith, omega arith)
    go (inr i) ih = let (p, q) = ih i in (omega arith, omega arith)

pub mem-span : (a n k : ℕ) → a ≤ k → k < a + n → Memᴰ k (span a n)
mem-span a zero k l h = absurd (omega arith)
mem-span a (suc n) k l h = go (test (leb (suc a) k)) (mem-span (suc a) n k)
  where
    go : (leb (suc a) k ≡ true) ⊎ (leb (suc a) k ≡ false) → (suc a ≤ k → k < suc a + n → Memᴰ k (span (suc a) n)) → Memᴰ k (span a (suc n))
    go (inl e) ih = Memᴰ.tail (ih (leb-true (suc a) k e) (omega arith))
    go (inr e) ih = let q : k ≡ a = omega (arith, leb-false (suc a) k e) in Memᴰ.head q
