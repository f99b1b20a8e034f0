-- The latest so far and that of the rows left is the latest of all.
use mathlib.Core.Path.{◌≡◌}
use Prim.Native.Nat.{max}
use lib.ListN.{drop}
use Rattle.search_state.specs.View.{rows}
use Rattle.candidate.specs.Pieces.{latest_due}
use Rattle.candidate.proofs.latest.Given as goal

abbrev pub invariant-loop-i : goal.invariant-loop-i
invariant-loop-i l = max l.m (latest_due (drop l.i (rows l.st))) ≡ latest_due (rows l.st)
