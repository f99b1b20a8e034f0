-- The tests of a rule by the rules of a load, which are the first n of its array.
use Prim.Native.Nat.{ℕ}
use mathlib.Core.Path.{◌≡◌, refl}
use mathlib.Core.Bool.{Bool}
use mathlib.Core.List.{List}
use lib.ListN.{length, take}
use Rattle.laws.proofs.Prefixes.{all-taken, full-taken}
use Rattle.rules.specs.declared.Rule.{Rule}
use Rattle.rules.specs.Rules.{rule_tests}

pub tests-taken : (n : ℕ) (rs : List Rule) → length rs ≡ 128 → (b : Bool) (stops : ℕ) (r : Rule)
    → rule_tests b stops (take n rs) (length (take n rs)) r ≡ rule_tests b stops rs n r
unfolding rule_tests
tests-taken n rs long b stops i = rw (all-taken n rs, full-taken n rs 128 long) refl
