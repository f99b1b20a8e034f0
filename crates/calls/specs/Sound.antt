-- A table that the steps make: its count is in range, the tail blank, calls ordered and within the horizon, marks only where they mean
-- something.
use Rattle.std.specs.Prelude.{ℕ, ◌-◌, ◌≤◌, ◌<◌, ◌≡◌, Bool, true, cond, List, [], ◌∷◌, eqb, length, take, drop, replicate}
use Rattle.settings.specs.declared.Settings.{Settings}
use Rattle.calls.specs.declared.Call.{Call}
pub use Rattle.laws.specs.Lists.{All, one_of}
use Rattle.calls.specs.declared.CallInput.{CallInput}
use Rattle.calls.specs.declared.Table.{Table}
use Rattle.calls.specs.Tables.{blank_call}
use Rattle.calls.specs.Calls.{call_on}
use Rattle.calls.specs.Sizes.{call_room, longest_horizon}

-- the horizons that a table has, from its opening to its last cut
abbrev pub horizons : List ℕ
horizons = longest_horizon ∷ 16200 ∷ 12150 ∷ 9113 ∷ 6835 ∷ 5127 ∷ 3846 ∷ []

pub record CallSound (h : ℕ) (c : Call) : Type 0 where
  pub ordered : c.arrival ≤ c.departure
  pub due : c.departure ≤ h
  pub board_marked : c.board_request ≡ true → c.board ≡ true
  pub alight_marked : c.alight_request ≡ true → c.alight ≡ true

pub record TableSound (t : Table) : Type 0 where
  pub few : t.count ≤ call_room
  pub long : length t.calls ≡ call_room
  pub blank : drop t.count t.calls ≡ replicate (call_room - t.count) blank_call
  pub each : All (CallSound t.horizon) (take t.count t.calls)
  pub known : one_of t.horizon horizons ≡ true
  -- limits is 1 exactly where the horizon fell
  pub limited : t.limits ≡ cond (eqb t.horizon longest_horizon) 0 1

-- every call of the table is at one of the first n stops
abbrev pub AtStop : ℕ → Call → Type 0
AtStop n c = c.stop < n

abbrev pub StopsKnown : ℕ → Table → Type 0
StopsKnown n t = All (AtStop n) (take t.count t.calls)

-- nothing taken yet
abbrev pub empty_table : Table
empty_table = record { calls = replicate call_room blank_call; count = 0; horizon = longest_horizon; limits = 0 }

-- the empty table is sound, and the call step keeps a table sound
abbrev pub EmptySound : Type 0
EmptySound = TableSound empty_table

abbrev pub CallKeepsSound : Type 0
CallKeepsSound = (s : Settings) (b : Bool) (n : ℕ) (t : Table) (i : CallInput) → TableSound t → TableSound (call_on s b n t i).table

-- the call step, of a load with n stops, keeps its calls at these; and so do more stops
abbrev pub CallKeepsKnown : Type 0
CallKeepsKnown = (s : Settings) (b : Bool) (n : ℕ) (t : Table) (i : CallInput) → TableSound t → StopsKnown n t
    → StopsKnown n (call_on s b n t i).table

abbrev pub MoreStopsKnown : Type 0
MoreStopsKnown = (n m : ℕ) (t : Table) → n ≤ m → StopsKnown n t → StopsKnown m t
