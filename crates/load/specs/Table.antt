-- What the call table is after any steps, and when its horizon falls.
use Rattle.std.specs.Prelude.{ℕ, ◌≤◌, ◌<◌, ◌≡◌, true, false, cond, List, [], ◌∷◌, ◌++◌, None}
use Rattle.refusal.specs.First.{is_taken}
use Rattle.settings.specs.Settings.{canonical_of}
use Rattle.calls.specs.declared.CallInput.{CallInput}
use Rattle.calls.specs.Calls.{window}
use Rattle.calls.specs.Shown.{windowed, table_calls, Meets}
use Rattle.calls.specs.Sound.{one_of, horizons}
use Rattle.load.specs.declared.Load.{Load}
use Rattle.load.specs.Load.{table_of}
use Rattle.load.specs.Steps.{Opening, opened, call_spec}
use Rattle.load.specs.Sound.{Sound}
use Rattle.load.specs.FillStep.{FillStep, stop, call, rule, service, exception, filled, filled_by}
use Rattle.week.specs.Weeks.{is_dated}

-- the call of a step, if it is answered taken
abbrev pub taken_call : Load → FillStep → List CallInput
taken_call l (stop id name parent i) = []
taken_call l (call name i) = cond (is_taken (call_spec l name i).answer) (i ∷ []) []
taken_call l (rule r) = []
taken_call l (service name weekdays start end) = []
taken_call l (exception name date kind) = []

-- the calls answered taken, in order
abbrev pub taken_calls : Load → List FillStep → List CallInput
taken_calls l [] = []
taken_calls l (x ∷ xs) = taken_call l x ++ taken_calls (filled l x).load xs

-- the table is exactly those calls, each seen through the window at the table's horizon, those outside it left out
abbrev pub TableLemma : Type 0
TableLemma = (o : Opening) (xs : List FillStep)
    → table_calls (table_of (filled_by (opened o) xs))
    ≡ windowed (canonical_of o.settings) (filled_by (opened o) xs).table_horizon (taken_calls (opened o) xs)

-- its horizon is one of 21600, 16200, 12150, 9113, 6835, 5127, 3846
abbrev pub OneOfSeven : Type 0
OneOfSeven = (o : Opening) (xs : List FillStep) → one_of (filled_by (opened o) xs).table_horizon horizons ≡ true

-- it never rises, and falls only when a call inside the window meets a full table
abbrev pub NeverRises : Type 0
NeverRises = (l : Load) (x : FillStep) → (filled l x).load.table_horizon ≤ l.table_horizon

abbrev pub FallsOnlyFull : Type 0
FallsOnlyFull = (l : Load) (x : FillStep) → (filled l x).load.table_horizon < l.table_horizon
    → (name : List ℕ) × (i : CallInput) × (x ≡ call name i) × Meets l.settings (table_of l) i

-- a call that is outside as it comes leaves a sound load without dates unchanged, until the search. (On a dated load it closes the
-- services. One that is inside and meets a full table cuts it, and may then be outside: the cut stays.)
abbrev pub OutsideUnchanged : Type 0
OutsideUnchanged = (l : Load) (i : CallInput) → Sound l → l.searched ≡ false → is_dated l.week ≡ false → (name : List ℕ)
    → window l.settings l.table_horizon i ≡ None → (call_spec l name i).load ≡ l
