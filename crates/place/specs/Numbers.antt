-- The float constants of the place test and of microdegrees, by their bit patterns; the decimal numbers that they are; and short names for
-- the operations of binary64.
use Rattle.std.specs.Prelude.{◌≡◌, ℕ, false, from_bits, Float}
use Rattle.std.specs.Float.{binary64}
use Rattle.std.specs.Float.Ieee.{round, add, sub, mul, div}

abbrev pub half : Float
half = from_bits binary64 0x3fe0000000000000

abbrev pub one : Float
one = from_bits binary64 0x3ff0000000000000

abbrev pub pi : Float
pi = from_bits binary64 0x400921fb54442d18

abbrev pub n24 : Float
n24 = from_bits binary64 0x4038000000000000

abbrev pub n90 : Float
n90 = from_bits binary64 0x4056800000000000

abbrev pub n125 : Float
n125 = from_bits binary64 0x405f400000000000

abbrev pub n180 : Float
n180 = from_bits binary64 0x4066800000000000

abbrev pub n720 : Float
n720 = from_bits binary64 0x4086800000000000

abbrev pub n40320 : Float
n40320 = from_bits binary64 0x40e3b00000000000

abbrev pub n111195 : Float
n111195 = from_bits binary64 0x40fb25b000000000

-- a million
abbrev pub n1_m : Float
n1_m = from_bits binary64 0x412e848000000000

abbrev pub n3628800 : Float
n3628800 = from_bits binary64 0x414baf8000000000

abbrev pub n360_m : Float
n360_m = from_bits binary64 0x41b5752a00000000

-- the float nearest to a / b, which is how a decimal number is read
abbrev pub ratio : ℕ → ℕ → Float
ratio a b = round binary64 false a b

-- each constant is the number that its name says
abbrev pub Decimals : Type 0
Decimals =
    (half ≡ ratio 5 10)
    × (one ≡ ratio 1 1)
    × (pi ≡ ratio 3141592653589793 1000000000000000)
    × (n24 ≡ ratio 24 1)
    × (n90 ≡ ratio 90 1)
    × (n125 ≡ ratio 125 1)
    × (n180 ≡ ratio 180 1)
    × (n720 ≡ ratio 720 1)
    × (n40320 ≡ ratio 40320 1)
    × (n111195 ≡ ratio 111195 1)
    × (n1_m ≡ ratio 1000000 1)
    × (n3628800 ≡ ratio 3628800 1)
    × (n360_m ≡ ratio 360000000 1)

infixl 60 ◌⊕◌ ◌⊖◌
abbrev pub ◌⊕◌ : Float → Float → Float
x ⊕ y = add binary64 x y

abbrev pub ◌⊖◌ : Float → Float → Float
x ⊖ y = sub binary64 x y

infixl 70 ◌⊗◌ ◌⊘◌
abbrev pub ◌⊗◌ : Float → Float → Float
x ⊗ y = mul binary64 x y

abbrev pub ◌⊘◌ : Float → Float → Float
x ⊘ y = div binary64 x y
