-- The stops of the calls passed are marked.
use mathlib.Core.Path.{refl}
use native.Mathlib.Omega.{arith}
use Rattle.transfer_array.proofs.ChangeLaws.{marks-more}
use Rattle.transfer_array.proofs.named_stops.Goals as goal

pub loop-i-init : goal.loop-i-init
loop-i-init c = (refl, λ k h. absurd (omega arith))

pub loop-i-preserved : goal.loop-i-preserved
loop-i-preserved c =
    let I = c.loop-i.invariant in
    (c.mark_stop.array_long, marks-more c.loop-i.marks c.args.feed.now c.loop-i.i I.0 I.1 c.mark_stop.ensures)

pub returns : goal.returns
returns c = λ i h b. c.loop-i.invariant.1 i (omega arith)
