-- Opening, stop, call, rule, service and exception: the answer, and the load that is returned. A step that is sent back returns the load
-- given.
use Rattle.refusal.specs.declared.Accepted.TheVariants.{Taken, Outside}
use Rattle.std.specs.Prelude.{ℕ, ◌+◌, Bool, true, false, cond, List, [], ◌∷◌, ◌++◌, set, None, Option, Some, Err, Ok}
use Rattle.refusal.specs.declared.Refusal.TheVariants.{DateWrong, ServiceUnknown}
use Rattle.refusal.specs.First.{first_answer, is_refused, is_taken, Answer}
use Rattle.settings.specs.declared.Settings.{Settings}
use Rattle.settings.specs.Settings.{settings_tests, canonical_of}
use Rattle.stops.specs.declared.Stop.{Stop}
use Rattle.stops.specs.declared.StopInput.{StopInput}
use Rattle.stops.specs.Answer.{station_of, stop_tests}
use Rattle.stops.specs.Taken.{stop_of}
use Rattle.calls.specs.declared.CallInput.{CallInput}
use Rattle.calls.specs.Tried.{Tried}
use Rattle.calls.specs.Calls.{field_tests, call_on}
use Rattle.rules.specs.declared.Rule.{Rule}
use Rattle.rules.specs.Rules.{rule_tests}
use Rattle.services.specs.Wrong.{dates_wrong}
use Rattle.week.specs.declared.Week.{Week}
use Rattle.week.specs.declared.Running.{Running}
use Rattle.week.specs.declared.Running.TheVariants.{Unknown, Rests, Runs}
use Rattle.week.specs.Weeks.{is_dated, undated_week, dated_week, closed_week, service_on, exception_on, running}
use Rattle.load.specs.declared.Load.{Load}
use Rattle.load.specs.declared.StepResult.{StepResult}
use Rattle.load.specs.Load.{empty_of, empty_load, blank_settings, table_of, with_table, with_stops, with_rules, with_week}

-- a step in place: its answer, and the load that it leaves
abbrev pub stepped : Answer → Load → StepResult
stepped a l = record { answer = a; load = l }

-- a step made of l, by which l stays where it is sent back
abbrev pub unless_refused : Load → StepResult → StepResult
unless_refused l s = record { answer = s.answer; load = cond (is_refused s.answer) l s.load }

-- ---- opening: 1, 2, 20

-- the settings, and the dates of the three days where there are any
pub record Opening : Type 0 where
  pub settings : Settings
  pub dates : Option (List ℕ)

abbrev pub undated : Settings → Opening
undated s = record { settings = s; dates = None }

abbrev pub dated : Settings → List ℕ → Opening
dated s dates = record { settings = s; dates = Some dates }

abbrev pub date_tests : Option (List ℕ) → List (Bool × Answer)
date_tests None = []
date_tests (Some dates) = (dates_wrong dates, Err DateWrong) ∷ []

abbrev pub open_tests : Opening → List (Bool × Answer)
open_tests o = settings_tests o.settings ++ date_tests o.dates

unfoldable pub open_answer : Opening → Answer
open_answer o = first_answer (open_tests o)

abbrev pub week_of : Option (List ℕ) → Week
week_of None = undated_week
week_of (Some dates) = dated_week dates

-- the load of an opening that is not sent back
abbrev pub opened : Opening → Load
opened o = empty_of (canonical_of o.settings) (week_of o.dates)

abbrev pub open_by : Answer → Settings → Week → StepResult
open_by a s w = record { answer = a; load = cond (is_refused a) (empty_load blank_settings) (empty_of (canonical_of s) w) }

unfoldable pub open_spec_of : Opening → StepResult
open_spec_of o = open_by (open_answer o) o.settings (week_of o.dates)

-- ---- stop: 15, 3, 5, 6, 7, 8, 4

abbrev pub station_in : Load → Option (List ℕ) → Option ℕ
station_in l parent = station_of l.stops l.stop_count parent

abbrev pub stop_answer : Load → List ℕ → Option (List ℕ) → Option (List ℕ) → StopInput → Answer
stop_answer l id name parent i = first_answer (stop_tests l.searched l.stops l.stop_count (station_in l parent) id name parent i)

-- the load with the stop, where it is taken
abbrev pub stop_load : Load → Stop → Answer → Load
stop_load l s a = cond (is_taken a) (with_stops l (set l.stops l.stop_count s) (l.stop_count + 1)) l

unfoldable pub stop_spec : Load → List ℕ → Option (List ℕ) → Option (List ℕ) → StopInput → StepResult
stop_spec l id name parent i = record {
  answer = stop_answer l id name parent i;
  load = stop_load l (stop_of id name (station_in l parent) i) (stop_answer l id name parent i);
}

-- ---- call: 15, 9, 21, not running, absent time, 10, outside, 11

abbrev pub call_fitted : Load → CallInput → Tried
call_fitted l i = call_on l.settings l.searched l.stop_count (table_of l) i

abbrev pub call_load : Load → Tried → Load
call_load l f = cond (is_refused f.answer) l (with_table l f.table)

-- a call that its service lets pass: 15, 9, absent time, 10, outside, 11
unfoldable pub plain_call : Load → CallInput → StepResult
plain_call l i = record { answer = (call_fitted l i).answer; load = call_load l (call_fitted l i) }

abbrev pub is_unknown : Running → Bool
is_unknown Unknown = true
is_unknown Rests = false
is_unknown Runs = false

abbrev pub is_resting : Running → Bool
is_resting Unknown = false
is_resting Rests = true
is_resting Runs = false

-- what is asked of the service that a call names: 21, outside on a day when it doesn't run
abbrev pub running_tests : Running → List (Bool × Answer)
running_tests r = (is_unknown r, Err ServiceUnknown) ∷ (is_resting r, Ok Outside) ∷ []

-- on a dated load, before the call's times: 15, 9, 21, outside on a day when the service doesn't run
unfoldable pub gate_answer : Bool → ℕ → Running → CallInput → Answer
gate_answer searched stops r i = first_answer (field_tests searched stops i ++ running_tests r)

-- the load, its services closed
abbrev pub closed_load : Load → Load
closed_load l = with_week l (closed_week l.week)

-- an answered call closes the services
abbrev pub closing : Load → StepResult → StepResult
closing l r = record { answer = r.answer; load = cond (is_refused r.answer) l (with_week r.load (closed_week l.week)) }

abbrev pub gated : Load → CallInput → Answer → StepResult
gated l i (Ok Taken) = closing l (plain_call l i)
gated l i (Ok Outside) = record { answer = Ok Outside; load = closed_load l }
gated l i (Err r) = record { answer = Err r; load = l }

unfoldable pub dated_call : Load → Running → CallInput → StepResult
dated_call l r i = gated l i (gate_answer l.searched l.stop_count r i)

-- the call of a service, whose name is empty where none is named; without dates the name is unread
unfoldable pub call_spec : Load → List ℕ → CallInput → StepResult
call_spec l name i = cond (is_dated l.week) (dated_call l (running l.week name i.day) i) (plain_call l i)

-- ---- rule: 15, 9, 12, 13, 11

abbrev pub rule_answer : Load → Rule → Answer
rule_answer l r = first_answer (rule_tests l.searched l.stop_count l.rules l.rule_count r)

-- the load with the rule, where it is taken
abbrev pub rule_load : Load → Rule → Answer → Load
rule_load l r a = cond (is_taken a) (with_rules l (set l.rules l.rule_count r) (l.rule_count + 1)) l

unfoldable pub rule_spec : Load → Rule → StepResult
rule_spec l r = record { answer = rule_answer l r; load = rule_load l r (rule_answer l r) }

-- ---- service: 15, 3, 5, 20, 22

unfoldable pub service_spec : Load → List ℕ → ℕ → ℕ → ℕ → StepResult
service_spec l name weekdays start end = record {
  answer = (service_on l.week l.searched name weekdays start end).answer;
  load = with_week l (service_on l.week l.searched name weekdays start end).week;
}

-- ---- exception: 15, 20, 21

unfoldable pub exception_spec : Load → List ℕ → ℕ → ℕ → StepResult
exception_spec l name date kind = record {
  answer = (exception_on l.week l.searched name date kind).answer;
  load = with_week l (exception_on l.week l.searched name date kind).week;
}
