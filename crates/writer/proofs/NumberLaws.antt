-- A float's bits, and a whole number in two's complement.
use mathlib.Core.Path.{◌≡◌, refl}
use mathlib.Core.Bool.{true, false≢true}
use native.Mathlib.Omega.{arith}
use lib.IntN.{ℤ, pos, negsuc}
use lib.Ieee.{Float, nan, inf, fin, binary64, is_nan, to_bits}
use mir.Syntax.{w64}
use mir.Val.{of_z}
use Rattle.codec.specs.Kinds.{unsigned_of}

pub nan-bits : (x : Float) → is_nan x ≡ true → 9221120237041090560 ≡ to_bits binary64 x
unfolding is_nan to_bits
nan-bits nan h = refl
nan-bits (inf s) h = absurd (false≢true h)
nan-bits (fin s m e) h = absurd (false≢true h)

pub unsigned-is : (z : ℤ) → of_z w64 z ≡ unsigned_of z
unsigned-is (pos n) = refl
unsigned-is (negsuc n) = omega arith
