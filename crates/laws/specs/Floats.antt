-- Bounds on the size of a float.
use Rattle.std.specs.Prelude.{ℕ, ◌*◌, ◌^◌, ◌≤◌, Float}
use Rattle.std.specs.Float.{nan, inf, fin}
use Rattle.std.specs.Float.Ieee.{up, down}

-- x is finite, and at most b in size
abbrev pub AtMost : Float → ℕ → Type 0
AtMost nan b = ⊥
AtMost (inf s) b = ⊥
AtMost (fin s m e) b = m * up e ≤ b * down e

-- x is finite, and at most 2 ^ k in size
abbrev pub Within : Float → ℕ → Type 0
Within x k = AtMost x (2 ^ k)
