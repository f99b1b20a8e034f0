-- `threshold` meets its contract: a loop over the kept rows from the last. The invariant: what counts for the rows from i on.
use mathlib.Core.Path.{◌≡◌}
use Rattle.search_state.specs.View.{kept_of}
use lib.ListN.{drop}
use Rattle.candidate.specs.Pieces.{rows_from}
use Rattle.candidate.proofs.times.threshold.Given as goal

abbrev pub invariant-loop-i : goal.invariant-loop-i
invariant-loop-i l = l.t ≡ rows_from l.leave l.rides l.walk l.late (drop l.i (kept_of l.st))
