-- Which patterns are the NaN.
use mathlib.Core.Path.{◌≡◌, refl, sym, ◌∙◌}
use mathlib.Core.Bool.{true, true≢false}
use Prim.Native.Nat.{ℕ}
use lib.Ieee.{Float, nan, inf, fin, binary64, is_nan, nan_bits, of_bits, of_fields, odd}
use lib.Ieee.Bits.{nan_bits_is}

only_nan : (v : Float) → is_nan v ≡ true → nan ≡ v
unfolding is_nan
only_nan nan h = refl
only_nan (inf s) h = absurd (true≢false (sym h))
only_nan (fin s m e) h = absurd (true≢false (sym h))

pub nan-of : (n : ℕ) → nan_bits binary64 n ≡ true → nan ≡ of_bits binary64 n
nan-of n h = only_nan (of_bits binary64 n) (sym (nan_bits_is binary64 n) ∙ h)

-- the constant of the library is a pattern of the NaN
pub nan-is : nan ≡ of_bits binary64 9221120237041090560
unfolding of_bits of_fields odd
nan-is = refl
