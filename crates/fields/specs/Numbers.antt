-- Numbers of a load file: big-endian, from a place of a record on. A byte past the record's end reads as 0.
use Rattle.std.specs.Prelude.{ℕ, ◌+◌, ◌*◌, ◌-◌, cond, List, ltb, ℤ, pos, negsuc, get_or, Float}
use Rattle.std.specs.Float.{binary64}
use Rattle.std.specs.Float.Ieee.{of_bits}
use Rattle.laws.specs.Tables.{table}

abbrev pub byte_at : List ℕ → ℕ → ℕ
byte_at b at = get_or b at 0

-- so many bytes
unfoldable pub bytes_at : ℕ → List ℕ → ℕ → List ℕ
bytes_at n b at = table n (λ i. byte_at b (at + i))

unfoldable pub u16_at : List ℕ → ℕ → ℕ
u16_at b at = byte_at b at * 256 + byte_at b (at + 1)

unfoldable pub u32_at : List ℕ → ℕ → ℕ
u32_at b at = u16_at b at * 65536 + u16_at b (at + 2)

unfoldable pub u64_at : List ℕ → ℕ → ℕ
u64_at b at = u32_at b at * 4294967296 + u32_at b (at + 4)

-- two's complement
unfoldable pub signed_of : ℕ → ℤ
signed_of n = cond (ltb n 9223372036854775808) (pos n) (negsuc (18446744073709551615 - n))

abbrev pub i64_at : List ℕ → ℕ → ℤ
i64_at b at = signed_of (u64_at b at)

-- the 8 bytes of an f64's bits; every pattern of a NaN is the one NaN
abbrev pub f64_at : List ℕ → ℕ → Float
f64_at b at = of_bits binary64 (u64_at b at)
