-- Rules as C lends them: 640 plain numbers, five for each rule: from, to, type, seconds, and 1 if seconds were given. Seconds that were not
-- given count as 0, so no row depends on the last.
use Rattle.std.specs.Prelude.{List, ℕ, ◌+◌, ◌*◌, ◌%◌, get_or, Some}
use Rattle.laws.specs.Tables.{table}
use Rattle.rules.specs.declared.Rule.{Rule}
use Rattle.rules.specs.Sizes.{rule_room}

-- the rule at a place of such an array
abbrev pub rule_at : List ℕ → ℕ → Rule
rule_at l i = record {
  from = get_or l (i * 5) 0;
  to = get_or l (i * 5 + 1) 0;
  transfer_type = get_or l (i * 5 + 2) 0 % 256;
  seconds = Some (get_or l (i * 5 + 3) 0);
}

-- the 128 of it
unfoldable pub rules_of : List ℕ → List Rule
rules_of l = table rule_room (rule_at l)
