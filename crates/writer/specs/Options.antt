-- A field that may be missing.
use Rattle.std.specs.Prelude.{ℕ, List, [], ◌∷◌, None, Option, Some}

-- its bytes after the byte 1, or the byte 0
abbrev pub option_bytes : {T : Type 0} → (T → List ℕ) → Option T → List ℕ
option_bytes f None = 0 ∷ []
option_bytes f (Some x) = 1 ∷ f x
