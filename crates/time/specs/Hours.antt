-- What `with_hours` reads: the digits that are left of the hours, after the number v of those read, and the seconds past the hour.
use Rattle.refusal.specs.declared.Refusal.{Refusal}
use Rattle.std.specs.Prelude.{ℕ, ◌+◌, ◌*◌, List, cond, Err, Result}
use Rattle.laws.specs.Lists.{foldl}
use Rattle.refusal.specs.declared.Refusal.TheVariants.{TimeText}
use Rattle.time.specs.Text.{with_digit, all_digits, in_range}

unfoldable pub with_hours : ℕ → List ℕ → ℕ → Result ℕ Refusal
with_hours v hours rest = cond (all_digits hours) (in_range (foldl with_digit v hours * 3600 + rest)) (Err TimeText)
