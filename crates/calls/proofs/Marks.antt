-- The starred instances of the window, by computation.
use mathlib.Core.Path.{refl}
use Rattle.settings.specs.Settings.{near}
use Rattle.calls.specs.Windows.{time_after, seen, seen_call}
use Rattle.calls.specs.Calls.{window}
use Rattle.calls.specs.Marked.{MarkedWindows}

pub marked-windows : MarkedWindows
unfolding near time_after seen seen_call window
marked-windows = (refl, refl)
