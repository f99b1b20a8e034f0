-- `block_least` meets its contract: a loop over the calls of the block.
use Rattle.rides.specs.Reach.{Least}
use Rattle.rides.proofs.joined.block_least.Given as goal

abbrev pub invariant-loop-c : goal.invariant-loop-c
invariant-loop-c l = Least l.lent.calls.feed.now l.lent.changes.now l.boards l.p l.from l.c l.t
