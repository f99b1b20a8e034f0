-- A list of tests, each with its cause: the cause of the first that holds. No test reads what is told.
use Rattle.std.specs.Prelude.{Bool, cond, List, [], ◌∷◌, None, Option, Some}
use Rattle.connection.specs.declared.Cause.{Cause}

-- the cause of the first test that holds; none where no test holds
abbrev pub first_of : List (Bool × Cause) → Option Cause
first_of [] = None
first_of (t ∷ ts) = cond t.0 (Some t.1) (first_of ts)

-- tests that are asked only in some cases
abbrev pub asking : Bool → List (Bool × Cause) → List (Bool × Cause)
asking asked ts = cond asked ts []
