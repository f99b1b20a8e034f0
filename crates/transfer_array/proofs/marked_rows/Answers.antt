-- Row after row.
use native.Mathlib.Omega.{arith}
use Rattle.transfer.specs.Lent.{entry_in}
use Rattle.transfer_array.proofs.ChangeLaws.{rows_more}
use Rattle.transfer_array.proofs.marked_rows.Goals as goal

pub loop-from-init : goal.loop-from-init
loop-from-init c = λ i k h. absurd (omega arith)

pub loop-from-preserved : goal.loop-from-preserved
loop-from-preserved c =
    let a = c.args in
    rows_more 128 _ (entry_in a.transfers.now) a.marks.now c.loop-from.changes _ c.loop-from.from c.reach_of-reach.ensures.1
    c.loop-from.invariant c.put_marked.ensures

pub returns : goal.returns
returns c = λ from to on there.
    let below = c.reach_of-reach.ensures.0 in
    c.loop-from.invariant from to (omega (arith, below from on)) on (below to there)
