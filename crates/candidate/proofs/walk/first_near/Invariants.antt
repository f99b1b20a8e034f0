-- `first_near` meets its contract. The invariant: no row so far covers o or is covered by it; where the numbers of the next one start.
use mathlib.Core.Path.{◌≡◌}
use Prim.Native.Nat.{◌-◌, ◌*◌, ◌≤◌}
use lib.ListN.{take}
use Rattle.search_state.specs.Layout.{width}
use Rattle.search_state.specs.View.{rows}
use Rattle.candidate.specs.Pieces.{Skipped}
use Rattle.candidate.proofs.walk.first_near.Given as goal

abbrev pub invariant-loop-i : goal.invariant-loop-i
invariant-loop-i l = Skipped l.o (take l.c (rows l.st)) 0 l.i × (l.i ≤ l.c) × (l.at ≡ l.i * width)

abbrev pub decreases-loop-i : goal.decreases-loop-i
decreases-loop-i l = l.c - l.i
