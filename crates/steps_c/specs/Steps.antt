-- Steps of one kind handed to a load one after another.
use Rattle.std.specs.Prelude.{ℕ, zero, suc, [], ◌∷◌, pos, replicate, None, Some}
use Rattle.settings.specs.declared.Settings.{Settings}
use Rattle.stops.specs.declared.StopInput.{StopInput}
use Rattle.rules.specs.declared.Rule.{Rule}
use Rattle.calls.specs.declared.CallInput.{CallInput}
use Rattle.load.specs.declared.Load.{Load}
use Rattle.load.specs.Steps.{undated, open_spec_of, stop_spec, rule_spec, call_spec}

abbrev pub plain_settings : Settings
plain_settings = record {
  origins = 1;
  targets = 1;
  origin_walks = replicate 4 0;
  target_walks = replicate 4 0;
  transfer_seconds = 0;
  max_transfers = 0;
  now = pos 0;
  epochs = replicate 3 (pos 0);
}

abbrev pub plain_stop : StopInput
plain_stop = record { location_type = 0; degrees = None; members = 1 }

-- a rule from stop k to the first
abbrev pub plain_rule : ℕ → Rule
plain_rule k = record { from = k; to = 0; transfer_type = 0; seconds = None }

-- a call at the first stop, in second k
abbrev pub plain_call : ℕ → CallInput
plain_call k = record { trip = 1; day = 0; sequence = k; stop = 0; arrival = Some k; departure = Some k; pickup = 0; drop_off = 0 }

-- ---- a step

unfoldable pub with_stop : ℕ → Load → Load
with_stop k l = (stop_spec l (k ∷ 65 ∷ []) None None plain_stop).load

unfoldable pub with_rule : ℕ → Load → Load
with_rule k l = (rule_spec l (plain_rule k)).load

unfoldable pub with_call : ℕ → Load → Load
with_call k l = (call_spec l [] (plain_call k)).load

-- ---- many

-- n steps, the last of number 0
unfoldable pub turns : ℕ → (ℕ → Load → Load) → Load → Load
turns zero step l = l
turns (suc n) step l = turns n step (step n l)

unfoldable pub calls_held : ℕ → ℕ → ℕ → ℕ
calls_held stops rules calls = (turns calls with_call
    (turns rules with_rule (turns stops with_stop (open_spec_of (undated plain_settings)).load))).call_count
