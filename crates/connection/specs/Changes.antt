-- What is asked of a change. "`join`: trip or day differs, and arrival + transfer seconds is at most departure."
use Rattle.std.specs.Prelude.{Bool, false, not, ◌&&◌, List, [], ◌∷◌, ℕ, ◌+◌, ◌-◌, eqb, ltb, leb, None, Option, Some, is_none, unwrap_or}
use Rattle.calls.specs.declared.Call.{Call}
use Rattle.withdrawal.specs.Removal.{last_of}
use Rattle.rules.specs.declared.Rule.{Rule}
use Rattle.rules.specs.Rules.{same_pair}
use Rattle.transfer.specs.Choice.{chosen}
use Rattle.transfer.specs.Changes.{ends_of_of, transfer_of}
use Rattle.offers.specs.Offers.{same_run}
use Rattle.connection.specs.declared.Cause.{Cause}
use Rattle.connection.specs.declared.Cause.TheVariants.{SameRun, Forbidden, NoChange, TooShort}
use Rattle.stops.specs.Sizes.{stop_room}

-- a stop past the 128th, which no step takes, joins nothing
unfoldable pub in_reach : ℕ → ℕ → Bool
in_reach from to = ltb from stop_room && ltb to stop_room

-- type 3
abbrev pub forbids : Option Rule → Bool
forbids (Some r) = eqb r.transfer_type 3
forbids None = false

-- its place among the rules: a pair may be taken once
abbrev pub number_in : List Rule → Option Rule → ℕ
number_in rs (Some r) = last_of (same_pair r.from r.to) rs - 1
number_in rs None = 0

-- change i, from the ride that boards at b and alights at a to one that boards at c, by the rule that holds, of that number, and the change
abbrev pub pair_tests : ℕ → Option Rule → ℕ → Option ℕ → Call → Call → Call → List (Bool × Cause)
pair_tests i rule number change b a c =
    (same_run b c, SameRun i)
    ∷ (not (in_reach a.stop c.stop), NoChange i)
    ∷ (forbids rule, Forbidden i number)
    ∷ (is_none change, NoChange i)
    ∷ (not (leb (a.arrival + unwrap_or change 0) c.departure), TooShort i (unwrap_or change 0) a.arrival c.departure)
    ∷ []

-- by the rules taken, and each stop's parent and place
abbrev pub rule_at : List Rule → List ℕ → ℕ → ℕ → Option Rule
rule_at rs parents from to = chosen (ends_of_of parents from to) rs

unfoldable pub change_tests : ℕ → List Rule → List ℕ → List ℕ → ℕ → Call → Call → Call → List (Bool × Cause)
change_tests i rs parents places change b a c =
    pair_tests i (rule_at rs parents a.stop c.stop) (number_in rs (rule_at rs parents a.stop c.stop))
    (transfer_of rs parents places a.stop c.stop change) b a c
