-- **Rule** (RULES 6.1): why one is sent back, in the order of RULES 16.2: 15, 9, 12, 13, 11. One that is taken is held as it was handed in.
use Rattle.refusal.specs.First.{Answer}
use Rattle.std.specs.Prelude.{ℕ, List, [], ◌∷◌, Bool, not, ◌&&◌, take, ltb, leb, eqb, None, Option, Some, Err}
use Rattle.laws.specs.Lists.{anyb}
use Rattle.refusal.specs.declared.Refusal.TheVariants.{AlreadySearched, FieldRange, RuleType, PairTaken, NoRoom}
use Rattle.rules.specs.declared.Rule.{Rule}
use Rattle.rules.specs.Sizes.{rule_room}

-- what an unused slot holds
abbrev pub blank_rule : Rule
blank_rule = record { from = 0; to = 0; transfer_type = 0; seconds = None }

abbrev pub same_pair : ℕ → ℕ → Rule → Bool
same_pair from to r = eqb r.from from && eqb r.to to

-- at most 3; type 2 has seconds
abbrev pub type_right_of : ℕ → Option ℕ → Bool
type_right_of k (Some n) = leb k 3
type_right_of k None = not (eqb k 2) && leb k 3

-- why a rule is sent back: `searched` and `stops` are the load's, of whose rules `count` are taken
unfoldable pub rule_tests : Bool → ℕ → List Rule → ℕ → Rule → List (Bool × Answer)
rule_tests searched stops rules count i =
    (searched, Err AlreadySearched)
    ∷ (not (ltb i.from stops && ltb i.to stops), Err FieldRange)
    ∷ (not (type_right_of i.transfer_type i.seconds), Err RuleType)
    ∷ (anyb (same_pair i.from i.to) (take count rules), Err PairTaken)
    ∷ (leb rule_room count, Err NoRoom)
    ∷ []
