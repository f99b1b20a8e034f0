-- A load searched many times, or a call added to it or withdrawn from it.
use Rattle.std.specs.Prelude.{ℕ, zero, suc, ◌+◌, ◌%◌, Bool, cond, [], Some}
use Rattle.calls.specs.declared.CallInput.{CallInput}
use Rattle.withdrawal.specs.Removal.{key_of}
use Rattle.load.specs.declared.Load.{Load}
use Rattle.load.specs.declared.StepResult.{StepResult}
use Rattle.load.specs.Load.{seen_of, with_seen}
use Rattle.again.specs.Again.{add_spec_of, withdraw_spec}

-- the load with another mark of its table
abbrev pub with_mark : Load → ℕ → Load
with_mark l m = with_seen l (record { calls = l.calls; count = l.call_count; horizon = l.table_horizon; limits = m }) (seen_of l)

-- the sum of a number of the load over so many turns; the mark in each is the parity of the turns that are left, so that no two in a row
-- are of the same load
unfoldable pub sum_of : (Load → ℕ) → ℕ → Load → ℕ
sum_of f zero l = 0
sum_of f (suc n) l = f (with_mark l (n % 2)) + sum_of f n l

-- a call of day 0 in one second
abbrev pub call_at : ℕ → ℕ → ℕ → ℕ → CallInput
call_at trip sequence stop second = record {
  trip = trip;
  day = 0;
  sequence = sequence;
  stop = stop;
  arrival = Some second;
  departure = Some second;
  pickup = 0;
  drop_off = 0;
}

-- ---- what is done in each turn

-- a call is added, or the one with its key withdrawn
abbrev pub alteration_of : Bool → CallInput → Load → StepResult
alteration_of adds i l = cond adds (add_spec_of l [] i) (withdraw_spec l (key_of i))

-- the horizon that a step leaves
unfoldable pub horizon_after : (Load → StepResult) → Load → ℕ
horizon_after step l = (step l).load.horizon
