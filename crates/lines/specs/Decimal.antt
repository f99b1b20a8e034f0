-- A number as its decimal digits, in ASCII, and what makes them the right ones.
use Rattle.std.specs.Prelude.{ℕ, zero, suc, ◌+◌, ◌*◌, ◌-◌, ◌/◌, ◌%◌, ◌≤◌, ◌<◌, ◌≡◌, Bool, cond, List, [], ◌∷◌, ◌++◌, ltb, get_or}
use Rattle.laws.specs.Lists.{foldl}
use Rattle.laws.specs.Lists.{All}

-- at most k digits
unfoldable pub decimal_by : ℕ → ℕ → List ℕ
decimal_by zero n = []
decimal_by (suc k) n = cond (ltb n 10) ((48 + n) ∷ []) (decimal_by k (n / 10) ++ ((48 + n % 10) ∷ []))

-- of a number below 2^64
unfoldable pub decimal : ℕ → List ℕ
decimal n = decimal_by 20 n

-- a space and a number
unfoldable pub spaced : ℕ → List ℕ
spaced n = 32 ∷ decimal n

-- 1 or 0
abbrev pub bit : Bool → ℕ
bit b = cond b 1 0

-- the number that a text of digits stands for
abbrev pub value_of : List ℕ → ℕ
value_of ds = foldl (λ (v d : ℕ). v * 10 + (d - 48)) 0 ds

abbrev pub IsDigit : ℕ → Type 0
IsDigit d = (48 ≤ d) × (d ≤ 57)

-- every byte is a digit, the digits stand for n, and the first of them is 0 only in the text "0"
pub record Spells (n : ℕ) (ds : List ℕ) : Type 0 where
  pub digits : All IsDigit ds
  pub value : value_of ds ≡ n
  pub first : 0 < n → 48 < get_or ds 0 0
  pub nought : n ≡ 0 → ds ≡ 48 ∷ []

abbrev pub DecimalRight : Type 0
DecimalRight = (n : ℕ) → n < 18446744073709551616 → Spells n (decimal n)
