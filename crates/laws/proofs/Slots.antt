-- An array of slots of which the first `count` are in use and the rest blank: one slot more, and what holds below a count.
use Prim.Native.Nat.{ℕ, zero, suc, ◌+◌, ◌-◌, ◌≤◌, ◌<◌}
use mathlib.Core.Path.{◌≡◌, refl, sym, ap, subst, ◌∙◌}
use mathlib.Core.Bool.{Bool, true, false}
use mathlib.Core.List.{List, [], ◌∷◌, tail-eq_of_cons-eq}
use native.Mathlib.Numerals.{add-one}
use native.Mathlib.Omega.{arith}
use borrow.Author.Tests.{ltb-true, ltb-false}
use lib.Dec.{ltb}
use lib.ListN.{length, get_or, take, drop, set, replicate, length-take}
use lib.Seq.{drop-cons, drop-set-lt, get_or-take}
use Rattle.laws.specs.Lists.{anyb}
use Rattle.laws.proofs.Bools.{or-false-left, or-false-right}

module _ {A : Type 0} (b : A) (size : ℕ) where
  -- a store at the first blank slot leaves the others blank
  pub blank-set : (l : List A) (n : ℕ) (x : A) → length l ≡ size → n < size → drop n l ≡ replicate (size - n) b
      → drop (n + 1) (set l n x) ≡ replicate (size - (n + 1)) b
  blank-set l n x long room blank =
      let k : n < length l = omega arith in
      let more : size - n ≡ suc (size - (n + 1)) = omega arith in
      let split : get_or l n b ∷ drop (suc n) l ≡ b ∷ replicate (size - (n + 1)) b =
      sym (drop-cons l n b k) ∙ blank ∙ ap (λ (m : ℕ). replicate m b) more in
      let under : n < n + 1 = omega arith in
      drop-set-lt (n + 1) l n x under ∙ ap (λ (m : ℕ). drop m l) (add-one n) ∙ tail-eq_of_cons-eq split

-- below count + 1: below count, or count itself
pub below-cases : (P : ℕ → Type 0) (count k : ℕ) → k < count + 1 → (k < count → P k) → P count → P k
below-cases P count k h f x = go (ltb k count) refl
  where
    go : (b : Bool) → ltb k count ≡ b → P k
    go true e = f (ltb-true k count e)
    go false e = let q : count ≡ k = omega (arith, ltb-false k count e) in subst P q x

module _ {A : Type 0} (p : A → Bool) where
  anyb-at : (l : List A) (j : ℕ) (d : A) → j < length l → anyb p l ≡ false → p (get_or l j d) ≡ false
  anyb-at [] j d h e = absurd (omega arith)
  anyb-at (x ∷ xs) zero d h e = or-false-left (p x) (anyb p xs) e
  anyb-at (x ∷ xs) (suc j) d h e = anyb-at xs j d (omega arith) (or-false-right (p x) (anyb p xs) e)

  -- where none of the first n elements passes the test, the element below n does not
  pub anyb-below : (l : List A) (n j : ℕ) (d : A) → j < n → n ≤ length l → anyb p (take n l) ≡ false → p (get_or l j d) ≡ false
  anyb-below l n j d h le e = rw (sym (get_or-take n l j d h)) (anyb-at (take n l) j d (simp length-take (omega arith)) e)
