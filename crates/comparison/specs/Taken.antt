-- What was taken so far of a list of steps, as it was handed in: nothing is read here but the steps and their answers.
-- RULES 1.1, 1.4, 4.3, 11.3.
use Rattle.std.specs.Prelude.{Bool, true, false, List, [], ◌∷◌, ◌++◌, ℕ, None, Option, Some}
use Rattle.stops.specs.declared.StopInput.{StopInput}
use Rattle.calls.specs.declared.CallInput.{CallInput}
use Rattle.rules.specs.declared.Rule.{Rule}
use Rattle.load.specs.FillStep.{FillStep, stop, call, rule, service, exception}
use Rattle.calls.specs.Sizes.{longest_horizon}

-- a stop as it was handed in: its id, its name and its parent's id, where there are any, and the rest
pub record StopGiven : Type 0 where
  pub id : List ℕ
  pub name : Option (List ℕ)
  pub parent : Option (List ℕ)
  pub input : StopInput

-- a service as it was handed in
pub record ServiceGiven : Type 0 where
  pub name : List ℕ
  pub weekdays : ℕ
  pub start : ℕ
  pub end : ℕ

-- of what was taken, the stops, the calls, the rules and the services
abbrev pub stops_in : List FillStep → List StopGiven
stops_in [] = []
stops_in (stop id name parent i ∷ xs) = record { id = id; name = name; parent = parent; input = i } ∷ stops_in xs
stops_in (call name i ∷ xs) = stops_in xs
stops_in (rule i ∷ xs) = stops_in xs
stops_in (service name weekdays start end ∷ xs) = stops_in xs
stops_in (exception name date kind ∷ xs) = stops_in xs

abbrev pub calls_in : List FillStep → List CallInput
calls_in [] = []
calls_in (stop id name parent i ∷ xs) = calls_in xs
calls_in (call name i ∷ xs) = i ∷ calls_in xs
calls_in (rule i ∷ xs) = calls_in xs
calls_in (service name weekdays start end ∷ xs) = calls_in xs
calls_in (exception name date kind ∷ xs) = calls_in xs

abbrev pub rules_in : List FillStep → List Rule
rules_in [] = []
rules_in (stop id name parent i ∷ xs) = rules_in xs
rules_in (call name i ∷ xs) = rules_in xs
rules_in (rule r ∷ xs) = r ∷ rules_in xs
rules_in (service name weekdays start end ∷ xs) = rules_in xs
rules_in (exception name date kind ∷ xs) = rules_in xs

abbrev pub services_in : List FillStep → List ServiceGiven
services_in [] = []
services_in (stop id name parent i ∷ xs) = services_in xs
services_in (call name i ∷ xs) = services_in xs
services_in (rule i ∷ xs) = services_in xs
services_in (service name weekdays start end ∷ xs) = record { name = name; weekdays = weekdays; start = start; end = end } ∷ services_in xs
services_in (exception name date kind ∷ xs) = services_in xs

-- what stands taken after some steps
pub record State : Type 0 where
  -- what was answered taken and not withdrawn, in order
  pub taken : List FillStep
  -- the table's horizon and mark, as its cuts leave them; what a search lowers further is not held here
  pub horizon : ℕ
  pub limits : ℕ
  -- whether a search was taken
  pub searched : Bool
  -- the limit of the last search, if it was stopped at one
  pub stopped : Option ℕ
  -- the dates of the three days, if the load was opened with dates
  pub dates : Option (List ℕ)
  -- whether services and exceptions come too late (RULES 4.3)
  pub closed : Bool

-- whether services are closed from the opening on: where there are no dates
abbrev pub without : Option (List ℕ) → Bool
without None = true
without (Some dates) = false

-- after the opening (RULES 1.4)
abbrev pub fresh : Option (List ℕ) → State
fresh dates =
    record { taken = []; horizon = longest_horizon; limits = 0; searched = false; stopped = None; dates = dates; closed = without dates }

-- with one more taken
abbrev pub more : State → FillStep → State
more t x = record {
  taken = t.taken ++ x ∷ [];
  horizon = t.horizon;
  limits = t.limits;
  searched = t.searched;
  stopped = t.stopped;
  dates = t.dates;
  closed = t.closed;
}

-- with these taken instead
abbrev pub keeping : State → List FillStep → State
keeping t fs = record {
  taken = fs;
  horizon = t.horizon;
  limits = t.limits;
  searched = t.searched;
  stopped = t.stopped;
  dates = t.dates;
  closed = t.closed;
}

-- with another horizon and mark
abbrev pub up_to : State → ℕ → ℕ → State
up_to t h m = record {
  taken = t.taken;
  horizon = h;
  limits = m;
  searched = t.searched;
  stopped = t.stopped;
  dates = t.dates;
  closed = t.closed;
}

-- searched: stopped at the limit, or with none finished
abbrev pub done : Option ℕ → State → State
done limit t = record {
  taken = t.taken;
  horizon = t.horizon;
  limits = t.limits;
  searched = true;
  stopped = limit;
  dates = t.dates;
  closed = t.closed;
}

-- after a search within the limit n, finished (true) or stopped
abbrev pub limited_to : ℕ → Bool → State → State
limited_to n true t = done None t
limited_to n false t = done (Some n) t

-- with services closed
abbrev pub shut : State → State
shut t = record {
  taken = t.taken;
  horizon = t.horizon;
  limits = t.limits;
  searched = t.searched;
  stopped = t.stopped;
  dates = t.dates;
  closed = true;
}
