-- A list's elements, each with those after it.
use Rattle.std.specs.Prelude.{◌≡◌, ◌⊎◌, List, [], ◌∷◌, ◌++◌}

module _ {A B : Type 0} where
  -- g of each element with those after it, in order
  abbrev pub over_tails : (B → List B → List A) → List B → List A
  over_tails g [] = []
  over_tails g (x ∷ xs) = g x xs ++ over_tails g xs

module _ {B : Type 0} where
  -- a list ends in x and then xs
  abbrev pub Tail : B → List B → List B → Type 0
  Tail x xs [] = ⊥
  Tail x xs (y ∷ ys) = ((x ≡ y) × (xs ≡ ys)) ⊎ Tail x xs ys
