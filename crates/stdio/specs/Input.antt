-- A buffer for input.
use Rattle.std.specs.Prelude.{ℕ, List, replicate}

-- so many zeros
unfoldable pub zeros : ℕ → List ℕ
zeros n = replicate n 0
