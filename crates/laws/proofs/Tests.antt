-- Two tests that imply each other are equal; equality of numbers is a symmetric test.
use mathlib.Core.Path.{◌≡◌, refl, sym}
use mathlib.Core.Bool.{Bool, true, false}
use Prim.Native.Nat.{ℕ}
use lib.Dec.{T, eqb, eqb→eq}
use lib.Ieee.Fits.{eq→eqb}

pub both_ways : (x y : Bool) → (T x → T y) → (T y → T x) → x ≡ y
both_ways true true f g = refl
both_ways true false f g = absurd (f tt)
both_ways false true f g = absurd (g tt)
both_ways false false f g = refl

pub eqb-sym : (m n : ℕ) → eqb m n ≡ eqb n m
eqb-sym m n = both_ways (eqb m n) (eqb n m) (λ t. eq→eqb (sym (eqb→eq m n t))) (λ t. eq→eqb (sym (eqb→eq n m t)))
