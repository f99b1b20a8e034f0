-- Of the marks passed each is below the number.
use mathlib.Core.Path.{◌≡◌}
use mathlib.Core.Bool.{true, false}
use Prim.Native.Nat.{ℕ, ◌≤◌, ◌<◌}
use lib.ListN.{get_or}
use Rattle.transfer_array.proofs.reach_of.Given as goal

abbrev pub invariant-loop-k : goal.invariant-loop-k
invariant-loop-k l = (l.reach ≤ l.k) × ((k : ℕ) → k < l.k → get_or l.marks k false ≡ true → k < l.reach)
