-- The first n of an array of m, as a list of its own: it is its own prefix, and it is full exactly where n is m or more.
use Prim.Native.Nat.{ℕ}
use mathlib.Core.Path.{◌≡◌, refl}
use mathlib.Core.Bool.{Bool, true, false}
use mathlib.Core.List.{List}
use native.Mathlib.Omega.{arith}
use borrow.Author.Tests.{le-leb, lt-leb, leb-true, leb-false}
use lib.Dec.{leb}
use lib.ListN.{length, take, length-take}
use lib.Seq.{take_all}

module _ {A : Type 0} (n : ℕ) (l : List A) where
  pub all-taken : take (length (take n l)) (take n l) ≡ take n l
  all-taken = take_all (length (take n l)) (take n l) (omega arith)

  pub few-taken : (m : ℕ) → length l ≡ m → take m (take n l) ≡ take n l
  few-taken m e = take_all m (take n l) (omega (arith, e, length-take n l))

  pub full-taken : (m : ℕ) → length l ≡ m → leb m (length (take n l)) ≡ leb m n
  full-taken m e = go (leb m n) refl
    where
      go : (b : Bool) → leb m n ≡ b → leb m (length (take n l)) ≡ b
      go true h = le-leb m (length (take n l)) (omega (arith, e, length-take n l, leb-true m n h))
      go false h = lt-leb m (length (take n l)) (omega (arith, e, length-take n l, leb-false m n h))
