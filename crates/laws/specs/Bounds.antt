-- The smaller and the larger of two numbers.
use Rattle.std.specs.Prelude.{cond, ℕ, leb}

abbrev pub least : ℕ → ℕ → ℕ
least a b = cond (leb a b) a b

abbrev pub most : ℕ → ℕ → ℕ
most a b = cond (leb a b) b a
