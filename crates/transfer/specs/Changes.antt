-- "Type 3 forbids"; types 0 and 1 give the change time, `transfer_seconds` (request 05), "whatever the seconds say" (request 02), and
-- type 2 max(seconds, that). "With no rule, same stop, same parent or same place gives" it; "else none."
-- And "`join`: trip or day differs, and arrival + transfer seconds is at most departure."
use Rattle.laws.specs.Bounds.{most}
use Rattle.std.specs.Option.{unwrap_or}
use Rattle.std.specs.Prelude.{Bool, not, false, cond, ◌&&◌, ◌||◌, List, ℕ, ◌+◌, leb, eqb, get_or, None, Option, Some}
use Rattle.rules.specs.declared.Rule.{Rule}
use Rattle.transfer.specs.declared.Ends.{Ends}
use Rattle.transfer.specs.Choice.{chosen}
use Rattle.stops.specs.Sizes.{no_stop}

-- the seconds that a rule gives: its own count for type 2 alone; `change` is the settings' change time
abbrev pub rule_seconds : Rule → ℕ → ℕ
rule_seconds r change = cond (eqb r.transfer_type 2) (most (unwrap_or r.seconds 0) change) change

abbrev pub rule_change : Rule → ℕ → Option ℕ
rule_change r change = cond (eqb r.transfer_type 3) None (Some (rule_seconds r change))

-- a stop, and its parent
unfoldable pub ends_of_of : List ℕ → ℕ → ℕ → Ends
ends_of_of parents from to =
    record { from = from; from_parent = get_or parents from no_stop; to = to; to_parent = get_or parents to no_stop }

-- one stop, one parent or one place; 65535 is none
abbrev pub near : Ends → ℕ → ℕ → Bool
near e p q = eqb e.from e.to || ((not (eqb e.from_parent no_stop) && eqb e.from_parent e.to_parent) || (not (eqb p no_stop) && eqb p q))

-- by the rule; with no rule by nearness
abbrev pub change_of : Option Rule → Bool → ℕ → Option ℕ
change_of (Some r) close change = rule_change r change
change_of None close change = cond close (Some change) None

-- of the rules taken, and each stop's parent and place
unfoldable pub transfer_of : List Rule → List ℕ → List ℕ → ℕ → ℕ → ℕ → Option ℕ
unfolding ends_of_of
transfer_of rules parents places from to change =
    change_of (chosen (ends_of_of parents from to) rules)
    (near (ends_of_of parents from to) (get_or places from no_stop) (get_or places to no_stop)) change

-- the arrival with the change is no later than the departure
abbrev pub joins_by : Option ℕ → ℕ → ℕ → Bool
joins_by (Some s) arrival departure = leb (arrival + s) departure
joins_by None arrival departure = false

-- `run` says that both rides are of one trip and day
abbrev pub join_of : Option ℕ → Bool → ℕ → ℕ → Bool
join_of c run arrival departure = cond run false (joins_by c arrival departure)

-- the number of each case: the seconds, and 65536, which no departure reaches, for never
abbrev pub change_number : Option ℕ → ℕ
change_number (Some s) = s
change_number None = 65536
