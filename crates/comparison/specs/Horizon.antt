-- How a call finds room, and how a full table is cut: a 513th makes the horizon h − h/4 (rounded down) and the mark 1, and is tried anew.
-- By the calls handed in and taken: no table is read. RULES 5.4.
use Rattle.refusal.specs.First.{Answer}
use Rattle.refusal.specs.declared.Accepted.TheVariants.{Taken, Outside}
use Rattle.std.specs.Prelude.{ℕ, ◌-◌, ◌/◌, ◌≤◌, ◌<◌, List, length, Err, Ok}
use Rattle.refusal.specs.declared.Refusal.TheVariants.{NoRoom}
use Rattle.settings.specs.declared.Settings.{Settings}
use Rattle.calls.specs.declared.CallInput.{CallInput}
use Rattle.calls.specs.declared.Call.{Call}
use Rattle.comparison.specs.Window.{Seen, Shown}
use Rattle.calls.specs.Sizes.{call_room}
use Rattle.profile.specs.Sizes.{least_horizon}

-- the call i, handed in where the calls `is` were taken, with the horizon h and the mark m, is answered so, and leaves a horizon and a
-- mark: it is outside; there is room for it; the horizon would fall below 3600; or it is a 513th, and is tried anew
pub data Fits (s : Settings) (is : List CallInput) (i : CallInput) : ℕ → ℕ → Answer → ℕ → ℕ → Type 0 where
  outside : {h m : ℕ} → ((c : Call) → Seen s h i c → ⊥) → Fits s is i h m (Ok Outside) h m
  room : {h m : ℕ} {c : Call} {cs : List Call} → Seen s h i c → Shown s h is cs → length cs < call_room → Fits s is i h m (Ok Taken) h m
  full : {h m : ℕ} {c : Call} {cs : List Call} → Seen s h i c → Shown s h is cs → call_room ≤ length cs → h - h / 4 < least_horizon
      → Fits s is i h m (Err NoRoom) h m
  cut : {h m g n : ℕ} {a : Answer} {c : Call} {cs : List Call} → Seen s h i c → Shown s h is cs → call_room ≤ length cs
      → least_horizon ≤ h - h / 4
      → Fits s is i (h - h / 4) 1 a g n → Fits s is i h m a g n
