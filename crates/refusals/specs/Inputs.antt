-- The calls and rules that steps are tried with.
use Rattle.std.specs.Prelude.{ℕ, Option}
use Rattle.calls.specs.declared.CallInput.{CallInput}
use Rattle.rules.specs.declared.Rule.{Rule}

-- a call of day 0
abbrev pub call_with : ℕ → ℕ → ℕ → Option ℕ → Option ℕ → CallInput
call_with trip sequence stop arrival departure = record {
  trip = trip;
  day = 0;
  sequence = sequence;
  stop = stop;
  arrival = arrival;
  departure = departure;
  pickup = 0;
  drop_off = 0;
}

abbrev pub rule_with : ℕ → ℕ → ℕ → Option ℕ → Rule
rule_with from to kind time = record { from = from; to = to; transfer_type = kind; seconds = time }
