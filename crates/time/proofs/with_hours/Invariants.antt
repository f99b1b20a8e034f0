-- The answer is that of the digits left, after the number of those read, which is at most 1193046.
use Prim.Native.Nat.{◌≤◌}
use mathlib.Core.Path.{◌≡◌}
use lib.ListN.{drop}
use Rattle.time.specs.Hours.{with_hours}
use Rattle.time.proofs.with_hours.Given as goal

abbrev pub invariant-loop-b : goal.invariant-loop-b
invariant-loop-b l = (l.v ≤ 1193046) × (with_hours 0 l.hours l.rest ≡ with_hours l.v (drop l.b-index l.hours) l.rest)
