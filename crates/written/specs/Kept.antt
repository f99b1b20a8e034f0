-- What the steps keep beside soundness, so that no record of a written load would be sent back.
use Rattle.refusal.specs.declared.Accepted.TheVariants.{Taken}
use Rattle.std.specs.Prelude.{ℕ, ◌≤◌, ◌<◌, ◌≡◌, true, false, List, take, is_some, Ok}
use Rattle.laws.specs.Lists.{All}
use Rattle.refusal.specs.First.{first_answer}
use Rattle.settings.specs.declared.Settings.{Settings}
use Rattle.settings.specs.Settings.{settings_tests, canonical_of}
use Rattle.stops.specs.declared.Stop.{Stop}
use Rattle.stops.specs.Stops.{id_of, name_of}
use Rattle.stops.specs.Sound.{stop_at, Parented}
use Rattle.stops.specs.Answer.{id_wrong, type_wrong, name_needed, name_wrong}
use Rattle.stops.specs.Taken.{stop_of}
use Rattle.calls.specs.declared.Call.{Call}
use Rattle.rules.specs.declared.Rule.{Rule}
use Rattle.rules.specs.Rules.{type_right_of}
use Rattle.rules.specs.Sound.{rule_at}
use Rattle.load.specs.declared.Load.{Load}
use Rattle.again.specs.Claims as again
use Rattle.codec.specs.Kinds.{DegreesHeld}
use Rattle.codec.specs.Parts.{parent_id_of, stop_input_of}
use Rattle.calls.specs.Sizes.{no_trip}

-- the settings are not sent back (1, 2), and are as opening leaves them
pub record SettingsKept (s : Settings) : Type 0 where
  pub opens : first_answer (settings_tests s) ≡ Ok Taken
  pub canonical : canonical_of s ≡ s

-- the stop of number k
pub record StopKept (stops : List Stop) (k : ℕ) (s : Stop) : Type 0 where
  -- 3
  pub id_right : id_wrong (id_of s) ≡ false
  -- 6
  pub type_right : type_wrong s.location_type (is_some s.parent) ≡ false
  -- 7: the parent came before
  pub parent_first : Parented stops k s.parent
  -- 8
  pub name_right : name_wrong (name_of s) (name_needed (parent_id_of stops s) (stop_input_of s)) (id_of s) ≡ false
  -- texts with 0 past their length
  pub whole : stop_of (id_of s) (name_of s) s.parent (stop_input_of s) ≡ s
  -- so that they can be written and come back
  pub degrees : DegreesHeld s.degrees

-- 12
pub record RuleKept (r : Rule) : Type 0 where
  pub type_right : type_right_of r.transfer_type r.seconds ≡ true

-- 9; the times and the marks are in `CallSound`
pub record CallKept (c : Call) : Type 0 where
  pub trip_known : c.trip < no_trip
  pub day_known : c.day ≤ 2

-- of each of them
pub record Kept (l : Load) : Type 0 where
  pub settings : SettingsKept l.settings
  pub stops : (k : ℕ) → k < l.stop_count → StopKept l.stops k (stop_at l.stops k)
  pub rules : (k : ℕ) → k < l.rule_count → RuleKept (rule_at l.rules k)
  pub calls : All CallKept (take l.call_count l.calls)

-- all that the steps keep: soundness, a searched load is the search of its own table, and these
pub record Whole (l : Load) : Type 0 where
  pub own : again.Kept l
  pub kept : Kept l
