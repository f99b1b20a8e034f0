-- Numbers as their bytes, the highest first.
use Rattle.std.specs.Prelude.{ℕ, ◌/◌, ◌%◌, List, [], ◌∷◌, ◌++◌}

unfoldable pub two_bytes : ℕ → List ℕ
two_bytes n = n / 256 ∷ n % 256 ∷ []

unfoldable pub four_bytes : ℕ → List ℕ
four_bytes n = two_bytes (n / 65536) ++ two_bytes (n % 65536)

unfoldable pub eight_bytes : ℕ → List ℕ
eight_bytes n = four_bytes (n / 4294967296) ++ four_bytes (n % 4294967296)
