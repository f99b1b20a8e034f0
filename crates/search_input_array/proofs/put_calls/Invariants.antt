-- Call after call.
use Prim.Native.Nat.{ℕ}
use lib.ListN.{get_or}
use Rattle.calls.specs.Tables.{blank_call}
use Rattle.laws.specs.Regions.{Blocks}
use Rattle.search_input_array.specs.Feeds.{six_of}
use Rattle.search_input_array.proofs.put_calls.Given as goal

abbrev pub invariant-loop-i : goal.invariant-loop-i
invariant-loop-i l = Blocks 6 (λ (j k : ℕ). get_or (six_of (get_or l.calls j blank_call)) k 0) l.i l.initial.feed l.feed
