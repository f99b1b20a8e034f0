-- The steps that fill a load, as one type, and a list of them: each gets the load that the one before it returned.
use Rattle.refusal.specs.declared.Accepted.TheVariants.{Taken}
use Rattle.std.specs.Prelude.{ℕ, ◌≡◌, Bool, true, List, [], ◌∷◌, ◌++◌, Option, Ok}
use Rattle.refusal.specs.First.{First, AllFail, is_refused, Answer}
use Rattle.stops.specs.declared.StopInput.{StopInput}
use Rattle.stops.specs.Answer.{stop_tests}
use Rattle.calls.specs.declared.CallInput.{CallInput}
use Rattle.calls.specs.Calls.{field_tests, time_tests}
use Rattle.calls.specs.Reached.{call_window}
use Rattle.rules.specs.declared.Rule.{Rule}
use Rattle.rules.specs.Rules.{rule_tests}
use Rattle.week.specs.Weeks.{service_tests, exception_tests, running}
use Rattle.load.specs.declared.Load.{Load}
use Rattle.load.specs.declared.StepResult.{StepResult}
use Rattle.load.specs.Load.{table_of}
use Rattle.load.specs.Steps.{station_in, stop_spec, running_tests, call_spec, rule_spec, service_spec, exception_spec}

pub data FillStep : Type 0 where
  -- id, name, parent's id and the rest
  stop : List ℕ → Option (List ℕ) → Option (List ℕ) → StopInput → FillStep
  -- the service's name, empty where none is named, and the rest
  call : List ℕ → CallInput → FillStep
  rule : Rule → FillStep
  -- name, weekday marks, start, end
  service : List ℕ → ℕ → ℕ → ℕ → FillStep
  -- the service's name, date, type
  exception : List ℕ → ℕ → ℕ → FillStep

-- the answer, and the load that is returned
abbrev pub filled : Load → FillStep → StepResult
filled l (stop id name parent i) = stop_spec l id name parent i
filled l (call name i) = call_spec l name i
filled l (rule r) = rule_spec l r
filled l (service name weekdays start end) = service_spec l name weekdays start end
filled l (exception name date kind) = exception_spec l name date kind

-- each gets the load that the one before it returned
abbrev pub filled_by : Load → List FillStep → Load
filled_by l [] = l
filled_by l (x ∷ xs) = filled_by (filled l x).load xs

-- a call at the table that its cuts lead to: outside, 11
abbrev pub window_tests : Load → CallInput → List (Bool × Answer)
window_tests l i = call_window l.settings (table_of l) i

-- the tests of a step, each with its answer, in the order of RULES 16.2 (with 15 for a call after the search, which `again` takes); no test
-- reads the answer:
-- stop 15, 3, 5, 6, 7, 8, 4; call 15, 9, 21, not running, absent time, 10, outside, 11; rule 15, 9, 12, 13, 11; service 15, 3, 5, 20, 22;
-- exception 15, 20, 21
abbrev pub causes : Load → FillStep → List (Bool × Answer)
causes l (stop id name parent i) = stop_tests l.searched l.stops l.stop_count (station_in l parent) id name parent i
causes l (call name i) = field_tests l.searched l.stop_count i ++ running_tests (running l.week name i.day) ++ time_tests i ++ window_tests l i
causes l (rule r) = rule_tests l.searched l.stop_count l.rules l.rule_count r
causes l (service name weekdays start end) = service_tests l.searched l.week.closed l.week.services l.week.service_count name start end
causes l (exception name date kind) = exception_tests l.searched l.week.closed l.week.services l.week.service_count name date kind

-- each step's answer is that of the first of its causes that holds, a taken step has none, and a refused load comes back unchanged
pub record Answered (l : Load) (x : FillStep) : Type 0 where
  pub first : First (filled l x).answer (causes l x)
  pub taken : (filled l x).answer ≡ Ok Taken → AllFail (causes l x)
  pub unchanged : is_refused (filled l x).answer ≡ true → (filled l x).load ≡ l

abbrev pub StepAnswered : Type 0
StepAnswered = (l : Load) (x : FillStep) → Answered l x
