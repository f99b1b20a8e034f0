-- The smaller of two numbers; reads of a list within its length.
use mathlib.Core.Path.{◌≡◌, refl, sym, ap, ◌∙◌}
use mathlib.Core.Bool.{Bool, true, false, cond}
use mathlib.Core.List.{List, [], ◌∷◌}
use Prim.Native.Nat.{ℕ, zero, suc, ◌<◌, min}
use native.Mathlib.Omega.{arith}
use lib.Dec.{leb}
use lib.ListN.{length, get_or, take}
use lib.Seq.{take_all}
use borrow.Author.Tests.{leb-true, leb-false}
use Rattle.laws.specs.Bounds.{least}

pub least-min : (a b : ℕ) → least a b ≡ min a b
least-min a b = go (leb a b) refl
  where
    go : (t : Bool) → leb a b ≡ t → cond t a b ≡ min a b
    go true e = let h = leb-true a b e in omega arith
    go false e = let h = leb-false a b e in omega arith

module _ {A : Type 0} where
  -- within the list the default does not count
  pub get_d_any : (l : List A) (i : ℕ) (d e : A) → i < length l → get_or l i d ≡ get_or l i e
  get_d_any [] i d e h = absurd (omega arith)
  get_d_any (x ∷ l) zero d e h = refl
  get_d_any (x ∷ l) (suc i) d e h = get_d_any l i d e (omega arith)

  -- no more is taken than there is
  pub take_min : (l : List A) (m n : ℕ) → length l ≡ n → take (min m n) l ≡ take m l
  take_min l m n h = go (leb m n) refl
    where
      go : (b : Bool) → leb m n ≡ b → take (min m n) l ≡ take m l
      go true e = let k = leb-true m n e in let q : min m n ≡ m = omega arith in ap (λ (j : ℕ). take j l) q
      go false e = let k = leb-false m n e in take_all (min m n) l (omega arith) ∙ sym (take_all m l (omega arith))
