-- The rows that stay of those looked at stand in front, and the rest is as it was, by each test that the closure answers.
use mathlib.Core.Path.{◌≡◌}
use mathlib.Core.Bool.{Bool}
use Prim.Native.Nat.{◌≤◌}
use lib.ListN.{length}
use Rattle.profile.specs.Found.{Row}
use Rattle.search_state.specs.Layout.{size}
use Rattle.candidate.specs.Pieces.{Packed}
use Rattle.candidate.proofs.pack.Given as goal

abbrev pub invariant-loop-i : goal.invariant-loop-i
invariant-loop-i g l =
    goal.F-IsAlwaysCallable g l.stays × (length l.st ≡ size) × (l.n ≤ l.i)
    × ((p : Row → Bool) → ((k : Row) (b : Bool) → goal.F-post g l.stays k b → b ≡ p k)
    → Packed p l.initial.st l.initial.st l.from l.kept → Packed p l.initial.st l.st l.i l.n)
