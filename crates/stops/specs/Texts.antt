-- When two texts are one.
use Rattle.std.specs.Prelude.{ℕ, List, [], ◌∷◌, Bool, true, false, ◌&&◌, eqb}

-- equal byte by byte, and equally long
abbrev pub same_bytes_of : List ℕ → List ℕ → Bool
same_bytes_of [] [] = true
same_bytes_of [] (b ∷ ys) = false
same_bytes_of (a ∷ xs) [] = false
same_bytes_of (a ∷ xs) (b ∷ ys) = eqb a b && same_bytes_of xs ys
