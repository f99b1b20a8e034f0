-- One comparison after another.
use Rattle.std.specs.Prelude.{Bool, ◌&&◌, ◌||◌, ℕ, ltb, eqb}

-- x is below y; or they are equal, and b decides
unfoldable pub lexb : ℕ → ℕ → Bool → Bool
lexb x y b = ltb x y || (eqb x y && b)
