-- The stops of the calls passed are marked.
use mathlib.Core.Path.{◌≡◌}
use lib.ListN.{length}
use Rattle.transfer_array.proofs.ChangeLaws.{MarkedTo}
use Rattle.transfer_array.proofs.named_stops.Given as goal

abbrev pub invariant-loop-i : goal.invariant-loop-i
invariant-loop-i l = (length l.marks ≡ 128) × MarkedTo l.marks l.feed l.i
