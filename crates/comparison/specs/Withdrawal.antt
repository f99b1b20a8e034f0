-- Which call a withdrawal takes out, by what was handed in and taken: of those with its trip, day and sequence the last taken. RULES 10.3.
use Rattle.std.specs.Prelude.{◌≡◌, ℕ}
use mathlib.Core.List.{List, ◌∷◌, ◌++◌, Memᴰ}
use Rattle.settings.specs.declared.Settings.{Settings}
use Rattle.calls.specs.declared.CallInput.{CallInput}
use Rattle.calls.specs.declared.Call.{Call}
use Rattle.calls.specs.declared.CallKey.{CallKey}
use Rattle.load.specs.FillStep.{FillStep, call}
use Rattle.comparison.specs.Taken.{calls_in, State, keeping}
use Rattle.comparison.specs.Window.{Seen}

-- the call has the trip, day and sequence named
pub record HasKey (k : CallKey) (i : CallInput) : Type 0 where
  pub trip : i.trip ≡ k.trip
  pub day : i.day ≡ k.day
  pub sequence : i.sequence ≡ k.sequence

-- a call taken is in the table while it is seen up to its horizon: one that a cut dropped is not
abbrev pub InTable : Settings → ℕ → CallInput → Type 0
InTable s h i = (c : Call) × Seen s h i c

-- no call taken has the key and is in the table
abbrev pub NoneSuch : Settings → ℕ → CallKey → List CallInput → Type 0
NoneSuch s h k is = (i : CallInput) → Memᴰ i is → HasKey k i → InTable s h i → ⊥

-- of the calls taken that have the key and are in the table the last goes, which leaves u: the others in their order, the table's horizon
-- and mark as they were
pub record Withdrawn (s : Settings) (t : State) (k : CallKey) (u : State) : Type 0 where
  pub before : List FillStep
  pub name : List ℕ
  pub gone : CallInput
  pub behind : List FillStep
  pub whole : t.taken ≡ before ++ call name gone ∷ behind
  pub key : HasKey k gone
  pub there : InTable s t.horizon gone
  pub last : NoneSuch s t.horizon k (calls_in behind)
  pub left : u ≡ keeping t (before ++ behind)
