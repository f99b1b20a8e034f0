-- The rules of a load that the steps make: the count is in range, the tail blank, every stop known, the type 0 to 3, and no pair stands
-- twice.
use Rattle.refusal.specs.declared.Accepted.TheVariants.{Taken}
use Rattle.std.specs.Prelude.{ℕ, ◌+◌, ◌-◌, ◌≤◌, ◌<◌, ◌≡◌, Bool, false, List, length, get_or, drop, set, replicate, Ok}
use Rattle.refusal.specs.First.{first_answer}
use Rattle.rules.specs.declared.Rule.{Rule}
use Rattle.rules.specs.Rules.{blank_rule, same_pair, rule_tests}
use Rattle.rules.specs.Sizes.{rule_room}

-- the rule of a number
unfoldable pub rule_at : List Rule → ℕ → Rule
rule_at rs k = get_or rs k blank_rule

pub record RulesSound (stops : ℕ) (rules : List Rule) (count : ℕ) : Type 0 where
  pub few : count ≤ rule_room
  pub long : length rules ≡ rule_room
  pub blank : drop count rules ≡ replicate (rule_room - count) blank_rule
  pub from_known : (k : ℕ) → k < count → (rule_at rules k).from < stops
  pub to_known : (k : ℕ) → k < count → (rule_at rules k).to < stops
  pub types : (k : ℕ) → k < count → (rule_at rules k).transfer_type ≤ 3
  pub alone : (j k : ℕ) → j < k → k < count → same_pair (rule_at rules k).from (rule_at rules k).to (rule_at rules j) ≡ false

-- no rule taken yet
abbrev pub NoRulesSound : Type 0
NoRulesSound = (stops : ℕ) → RulesSound stops (replicate rule_room blank_rule) 0

-- a rule that is taken keeps the rules sound
abbrev pub RuleKeepsSound : Type 0
RuleKeepsSound = (searched : Bool) (stops : ℕ) (rules : List Rule) (count : ℕ) (r : Rule) → RulesSound stops rules count
    → first_answer (rule_tests searched stops rules count r) ≡ Ok Taken → RulesSound stops (set rules count r) (count + 1)

-- and so do more stops
abbrev pub MoreStopsSound : Type 0
MoreStopsSound = (stops more : ℕ) (rules : List Rule) (count : ℕ) → stops ≤ more → RulesSound stops rules count
    → RulesSound more rules count
