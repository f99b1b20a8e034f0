-- A call step that cuts nothing, told by the table's count and horizon alone.
use Rattle.refusal.specs.declared.Accepted.TheVariants.{Taken, Outside}
use Rattle.std.specs.Prelude.{ℕ, ◌<◌, ◌≡◌, Bool, cond, ltb, None, Option, Some, Err, Ok}
use Rattle.refusal.specs.First.{first_answer, Answer}
use Rattle.settings.specs.declared.Settings.{Settings}
use Rattle.calls.specs.declared.Call.{Call}
use Rattle.calls.specs.declared.CallInput.{CallInput}
use Rattle.calls.specs.declared.Table.{Table}
use Rattle.calls.specs.declared.Uncut.{Uncut}
use Rattle.calls.specs.declared.Uncut.TheVariants.{In, Outside as Beyond, Other}
use Rattle.calls.specs.Calls.{call_tests, call_seen, call_on}
use Rattle.calls.specs.Tables.{put}
use Rattle.calls.specs.Sizes.{call_room}

-- a call that is seen so, with so many in the table
abbrev pub uncut_view : ℕ → Option Call → Uncut
uncut_view count None = Beyond
uncut_view count (Some c) = cond (ltb count call_room) (In c) Other

abbrev pub uncut_by : Answer → Uncut → Uncut
uncut_by (Ok Taken) u = u
uncut_by (Ok Outside) u = Beyond
uncut_by (Err r) u = Other

unfoldable pub uncut_on : Settings → Bool → ℕ → ℕ → ℕ → CallInput → Uncut
uncut_on s searched stops count h i = uncut_by (first_answer (call_tests searched stops i)) (uncut_view count (call_seen s h i))

-- what it tells of the call step
pub record Told (s : Settings) (searched : Bool) (stops : ℕ) (t : Table) (i : CallInput) (u : Uncut) : Type 0 where
  pub room : (c : Call) → u ≡ In c → t.count < call_room
  pub goes_in : (c : Call) → u ≡ In c → call_on s searched stops t i ≡ record { answer = Ok Taken; table = put t c }
  pub outside : u ≡ Beyond → call_on s searched stops t i ≡ record { answer = Ok Outside; table = t }

abbrev pub UncutTells : Type 0
UncutTells = (s : Settings) (searched : Bool) (stops : ℕ) (t : Table) (i : CallInput)
    → Told s searched stops t i (uncut_on s searched stops t.count t.horizon i)
