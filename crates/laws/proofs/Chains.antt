-- What std's iterators find, in the words of this repository.
use mathlib.Core.Path.{◌≡◌, refl, ap}
use mathlib.Core.Bool.{Bool, true, false, not, cond, ◌||◌}
use mathlib.Core.List.{List, [], ◌∷◌}
use Prim.Native.Nat.{ℕ, suc, ◌+◌}
use native.Mathlib.Omega.{arith}
use Prim.Native.Nat.compare
use borrow.Author.Tests.{lt-ltb}
use lib.Dec.{ltb}
use lib.ListN.{length}
use Rattle.std.specs.Prelude.{None, Some}
use Rattle.std.specs.List.{list_any, position_from, position_or_len}
use Rattle.laws.specs.Lists.{anyb}

module _ {A : Type 0} (p : A → Bool) where
  pub any-is : (xs : List A) → list_any p xs ≡ anyb p xs
  any-is [] = refl
  any-is (x ∷ xs) = ap (λ (b : Bool). p x || b) (any-is xs)

  -- the place of the first that passes, as `position` gives it, counted from k
  pub position-is : (xs : List A) (k : ℕ) → cond (ltb (position_or_len p xs) (length xs)) (Some (k + position_or_len p xs)) None
      ≡ position_from p k xs
  position-is [] k = refl
  position-is (x ∷ xs) k = go (p x) (position-is xs (k + 1))
    where
      go : (b : Bool) → cond (ltb (position_or_len p xs) (length xs)) (Some (k + 1 + position_or_len p xs)) None
          ≡ position_from p (k + 1) xs
          → cond (ltb (cond (not b) (1 + position_or_len p xs) 0) (suc (length xs)))
          (Some (k + cond (not b) (1 + position_or_len p xs) 0)) None ≡ cond b (Some k) (position_from p (k + 1) xs)
      go true e =
          let z : k + 0 ≡ k = omega arith in
          let t = lt-ltb 0 (suc (length xs)) (omega arith) in
          rw (t, z)
      go false e =
          let m : k + (1 + position_or_len p xs) ≡ k + 1 + position_or_len p xs = omega arith in
          let o : 1 + position_or_len p xs ≡ suc (position_or_len p xs) = omega arith in
          rw (m, o, compare.suc-suc) e

  pub position-found : (xs : List A) → cond (ltb (position_or_len p xs) (length xs)) (Some (position_or_len p xs)) None
      ≡ position_from p 0 xs
  position-found xs =
      let z : 0 + position_or_len p xs ≡ position_or_len p xs = omega arith in
      rw z at (position-is xs 0)
