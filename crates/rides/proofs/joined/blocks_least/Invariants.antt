-- `blocks_least` meets its contract: a loop over the blocks.
use Rattle.rides.specs.Reach.{block_count, BlockAt, EachOf}
use Rattle.rides.proofs.joined.blocks_least.Given as goal

abbrev pub invariant-loop-b : goal.invariant-loop-b
invariant-loop-b l =
    EachOf block_count 0 (BlockAt l.lent.calls.feed.now l.lent.changes.now l.boards l.lent.calls.n l.p) 0 l.b l.row
