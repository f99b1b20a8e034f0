-- The order of byte strings.
use Rattle.std.specs.Prelude.{Bool, true, false, cond, List, [], ◌∷◌, ℕ, ltb}

-- by two numbers, and by `rest` where they are equal
abbrev pub by_first_of : ℕ → ℕ → Bool → Bool
by_first_of a b rest = cond (ltb a b) true (cond (ltb b a) false rest)

-- the first byte that differs decides, and a beginning is before the whole
abbrev pub less_bytes : List ℕ → List ℕ → Bool
less_bytes xs [] = false
less_bytes [] (y ∷ ys) = true
less_bytes (x ∷ xs) (y ∷ ys) = by_first_of x y (less_bytes xs ys)
