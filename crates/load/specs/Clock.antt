-- "A time is epoch + seconds − now": of each opened load, for every day that a call may have.
use Rattle.std.specs.Option.{unwrap_or}
use Rattle.std.specs.Prelude.{◌≤◌, ◌≡◌, pos, ◌+ℤ◌, ◌-ℤ◌, get_or, Option, ℕ}
use Rattle.calls.specs.declared.CallInput.{CallInput}
use Rattle.calls.specs.Windows.{time_of}
use Rattle.calls.specs.Calls.{call_time}
use Rattle.load.specs.Steps.{Opening, opened}
use Rattle.load.specs.Sound.{Opens}

-- the guard of `time_after`, epoch and start within 2^40, holds
abbrev pub OpenedTime : Type 0
OpenedTime = (o : Opening) → Opens o → (i : CallInput) → i.day ≤ 2 → (t : Option ℕ)
    → call_time (opened o).settings i t ≡ time_of (get_or o.settings.epochs i.day (pos 0) +ℤ pos (unwrap_or t 0) -ℤ o.settings.now)
