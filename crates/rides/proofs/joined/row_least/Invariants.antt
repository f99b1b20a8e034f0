-- `row_least` meets its contract: a loop over the numbers.
use Rattle.std.proofs.Common.{ℕ, ◌≤◌, ◌<◌, get_or}
use Rattle.rides.proofs.joined.row_least.Given as goal

abbrev pub invariant-loop-b : goal.invariant-loop-b
invariant-loop-b l = (k : ℕ) → k < l.b → l.t ≤ get_or l.row k 0
