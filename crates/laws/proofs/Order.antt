-- The order of byte strings is strict.
use mathlib.Core.Path.{◌≡◌, refl, sym, ◌∙◌}
use mathlib.Core.Logic.{◌⊎◌, inl, inr}
use mathlib.Core.Bool.{Bool, true, false, true≢false, false≢true}
use mathlib.Core.List.{List, [], ◌∷◌}
use Prim.Native.Nat.{ℕ, ◌≤◌, ◌<◌}
use native.Mathlib.Omega.{arith}
use lib.Dec.{ltb}
use borrow.Author.Tests.{lt-ltb, le-ltb, ltb-true, ltb-false}
use Rattle.laws.specs.Sort.{Strict}
use Rattle.laws.specs.Order.{by_first_of, less_bytes}

pub by_first-less : (a b : ℕ) (r : Bool) → a < b → by_first_of a b r ≡ true
by_first-less a b r h = rw (lt-ltb a b h)

pub by_first-more : (a b : ℕ) (r : Bool) → b < a → by_first_of a b r ≡ false
by_first-more a b r h = rw (le-ltb a b (omega arith), lt-ltb b a h)

pub by_first-same : (a b : ℕ) (r : Bool) → b ≤ a → a ≤ b → by_first_of a b r ≡ r
by_first-same a b r g h = rw (le-ltb a b g, le-ltb b a h)

pub tri : (m n : ℕ) → (m < n) ⊎ ((m ≡ n) ⊎ (n < m))
tri m n = go (ltb m n) (ltb n m) refl refl
  where
    go : (p q : Bool) → ltb m n ≡ p → ltb n m ≡ q → (m < n) ⊎ ((m ≡ n) ⊎ (n < m))
    go true q e f = inl (ltb-true m n e)
    go false true e f = inr (inr (ltb-true n m f))
    go false false e f = inr (inl (omega (arith, ltb-false m n e, ltb-false n m f)))

bytes-asym : (a b : List ℕ) → less_bytes a b ≡ true → less_bytes b a ≡ false
bytes-asym a [] e = absurd (false≢true e)
bytes-asym [] (y ∷ b) e = refl
bytes-asym (x ∷ a) (y ∷ b) e = go (tri x y) (bytes-asym a b)
  where
    go : (x < y) ⊎ ((x ≡ y) ⊎ (y < x)) → (less_bytes a b ≡ true → less_bytes b a ≡ false) → by_first_of y x (less_bytes b a) ≡ false
    go (inl h) ih = by_first-more y x _ h
    go (inr (inl h)) ih = by_first-same y x _ (omega arith) (omega arith) ∙ ih (sym (by_first-same x y _ (omega arith) (omega arith)) ∙ e)
    go (inr (inr h)) ih = absurd (true≢false (sym e ∙ by_first-more x y _ h))

bytes-pass : (a b c : List ℕ) → less_bytes b a ≡ false → less_bytes c b ≡ false → less_bytes c a ≡ false
bytes-pass [] b c p q = refl
bytes-pass (x ∷ a) [] c p q = absurd (true≢false p)
bytes-pass (x ∷ a) (y ∷ b) [] p q = absurd (true≢false q)
bytes-pass (x ∷ a) (y ∷ b) (z ∷ c) p q = go (tri x y) (tri y z) (bytes-pass a b c)
  where
    go : (x < y) ⊎ ((x ≡ y) ⊎ (y < x)) → (y < z) ⊎ ((y ≡ z) ⊎ (z < y))
        → (less_bytes b a ≡ false → less_bytes c b ≡ false → less_bytes c a ≡ false)
        → by_first_of z x (less_bytes c a) ≡ false
    go (inr (inr h)) k ih = absurd (true≢false (sym (by_first-less y x _ h) ∙ p))
    go (inl h) (inr (inr k)) ih = absurd (true≢false (sym (by_first-less z y _ k) ∙ q))
    go (inr (inl h)) (inr (inr k)) ih = absurd (true≢false (sym (by_first-less z y _ k) ∙ q))
    go (inl h) (inl k) ih = by_first-more z x _ (omega arith)
    go (inl h) (inr (inl k)) ih = by_first-more z x _ (omega arith)
    go (inr (inl h)) (inl k) ih = by_first-more z x _ (omega arith)
    go (inr (inl h)) (inr (inl k)) ih =
        by_first-same z x _ (omega arith) (omega arith)
        ∙ ih (sym (by_first-same y x _ (omega arith) (omega arith)) ∙ p) (sym (by_first-same z y _ (omega arith) (omega arith)) ∙ q)

-- by the bytes that f gives
pub strict-bytes : {A : Type 0} (f : A → List ℕ) → Strict (λ (a b : A). less_bytes (f a) (f b))
strict-bytes f = record { asym = λ a b. bytes-asym (f a) (f b); pass = λ a b c. bytes-pass (f a) (f b) (f c) }
