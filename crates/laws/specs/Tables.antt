-- A list given by a function of the place.
use Rattle.std.specs.Prelude.{List, map, ℕ}
use Rattle.laws.specs.Lists.{span}

-- f of 0, 1, .. up to n of them
unfoldable pub table : {A : Type 0} → ℕ → (ℕ → A) → List A
table n f = map f (span 0 n)
