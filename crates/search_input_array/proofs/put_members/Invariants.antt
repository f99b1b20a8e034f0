-- Stop after stop.
use Prim.Native.Nat.{ℕ}
use Rattle.stops.specs.Sound.{stop_at}
use Rattle.laws.specs.Regions.{Region}
use Rattle.search_input_array.specs.Feeds.{masked_of}
use Rattle.search_input_array.proofs.put_members.Given as goal

abbrev pub invariant-loop-k : goal.invariant-loop-k
invariant-loop-k l = Region (λ (j : ℕ). masked_of l.origins l.targets (stop_at l.stops j).members) 3072 l.k l.initial.feed l.feed
