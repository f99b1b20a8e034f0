-- Numbers stored one after the other.
use Rattle.std.specs.Prelude.{List, [], ◌∷◌, ℕ, suc, ◌+◌, set}

-- the numbers vs stored from a + k on
abbrev pub puts : List ℕ → ℕ → ℕ → List ℕ → List ℕ
puts l a k [] = l
puts l a k (v ∷ vs) = puts (set l (a + k) v) a (suc k) vs
