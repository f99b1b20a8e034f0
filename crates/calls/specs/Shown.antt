-- What the table is: the calls answered taken, in order, as the window shows them at its horizon. And when the horizon falls.
use Rattle.std.specs.Prelude.{ℕ, ◌≤◌, ◌<◌, ◌≡◌, Bool, cond, List, [], ◌∷◌, ◌++◌, take, None, Option, Some, Err}
use Rattle.refusal.specs.declared.Refusal.TheVariants.{NoRoom}
use Rattle.refusal.specs.First.{is_taken}
use Rattle.settings.specs.declared.Settings.{Settings}
use Rattle.calls.specs.declared.Call.{Call}
use Rattle.calls.specs.declared.CallInput.{CallInput}
use Rattle.calls.specs.declared.Table.{Table}
use Rattle.calls.specs.Calls.{call_on, window}
use Rattle.calls.specs.Sound.{TableSound}
use Rattle.calls.specs.Sizes.{call_room}

-- a call that is seen; nothing where it is outside
abbrev pub shown : Option Call → List Call
shown (Some c) = c ∷ []
shown None = []

-- the calls of a list as the window shows them up to h, those outside left out
abbrev pub windowed : Settings → ℕ → List CallInput → List Call
windowed s h [] = []
windowed s h (i ∷ is) = shown (window s h i) ++ windowed s h is

-- the calls of the table
abbrev pub table_calls : Table → List Call
table_calls t = take t.count t.calls

-- the table shows these calls
abbrev pub Shows : Settings → Table → List CallInput → Type 0
Shows s t is = table_calls t ≡ windowed s t.horizon is

-- the call, if it is answered taken
abbrev pub taken_of : Settings → Bool → ℕ → Table → CallInput → List CallInput
taken_of s b n t i = cond (is_taken (call_on s b n t i).answer) (i ∷ []) []

-- if a sound table shows these calls, it shows them after the step, and the new one if that is taken
abbrev pub StepShows : Type 0
StepShows = (s : Settings) (b : Bool) (n : ℕ) (t : Table) (i : CallInput) (is : List CallInput)
    → TableSound t → Shows s t is → Shows s (call_on s b n t i).table (is ++ taken_of s b n t i)

-- a call inside the window meets a full table
pub record Meets (s : Settings) (t : Table) (i : CallInput) : Type 0 where
  pub call : Call
  pub inside : window s t.horizon i ≡ Some call
  pub full : call_room ≤ t.count

-- the horizon falls only then
abbrev pub FallsOnlyFull : Type 0
FallsOnlyFull = (s : Settings) (b : Bool) (n : ℕ) (t : Table) (i : CallInput) → (call_on s b n t i).table.horizon < t.horizon → Meets s t i

abbrev pub NeverRises : Type 0
NeverRises = (s : Settings) (b : Bool) (n : ℕ) (t : Table) (i : CallInput) → (call_on s b n t i).table.horizon ≤ t.horizon

-- a call is refused with 11 only then, too
abbrev pub FullOnlyFull : Type 0
FullOnlyFull = (s : Settings) (b : Bool) (n : ℕ) (t : Table) (i : CallInput) → (call_on s b n t i).answer ≡ Err NoRoom → Meets s t i

-- a call that is outside before any cut changes nothing
abbrev pub OutsideSame : Type 0
OutsideSame = (s : Settings) (b : Bool) (n : ℕ) (t : Table) (i : CallInput) → window s t.horizon i ≡ None → (call_on s b n t i).table ≡ t
