-- The set binary digits of a number, lowest first.
use Rattle.std.specs.Prelude.{◌≡◌, Bool, cond, List, [], ◌∷◌, ℕ, zero, suc, ◌-◌, ◌/◌, ◌%◌, ◌<◌, eqb}
use Rattle.std.specs.Int.Bits.{bit_and}
use Rattle.std.specs.Int.Count.{count_trailing_zeros}

-- the binary digit k of m is 1
abbrev pub digit : ℕ → ℕ → Bool
digit zero m = eqb (m % 2) 1
digit (suc k) m = digit k (m / 2)

-- the numbers of the set digits among the next n digits of m, lowest first, counted from b
abbrev pub bits_from : ℕ → ℕ → ℕ → List ℕ
bits_from zero b m = []
bits_from (suc n) b m = cond (eqb (m % 2) 1) (b ∷ bits_from n (suc b) (m / 2)) (bits_from n (suc b) (m / 2))

-- the set digits of a mask of four digits
unfoldable pub bits_of : ℕ → List ℕ
bits_of m = bits_from 4 0 m

-- the number of the lowest set digit of a byte, and the byte without it
unfoldable pub low_of : ℕ → ℕ
low_of m = count_trailing_zeros 8 m

unfoldable pub cleared : ℕ → ℕ
cleared m = bit_and m (m - 1)

-- what is left of a mask: its lowest set digit comes first, then those of the mask without it
pub record Lowest (m : ℕ) : Type 0 where
  pub parts : bits_of m ≡ low_of m ∷ bits_of (cleared m)
  pub less : cleared m < m
  pub low : low_of m < 4

abbrev pub LowestFirst : Type 0
LowestFirst = (m : ℕ) → (m ≡ 0 → ⊥) → m < 16 → Lowest m
