-- Walk after walk.
use Prim.Native.Nat.{ℕ}
use lib.ListN.{get_or}
use Rattle.laws.specs.Regions.{Region}
use Rattle.search_input_array.proofs.put_walks.Given as goal

abbrev pub invariant-loop-k : goal.invariant-loop-k
invariant-loop-k l = Region (λ (j : ℕ). get_or l.walks j 0) l.at l.k l.initial.feed l.feed
