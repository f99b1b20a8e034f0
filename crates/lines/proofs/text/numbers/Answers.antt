-- Number after number.
use native.Mathlib.Omega.{arith}
use Rattle.buffer.proofs.PutLaws.{put-none, put-turn, put-each}
use Rattle.lines.specs.Decimal.{spaced}
use Rattle.lines.proofs.text.numbers.Goals as goal

pub loop-n-init : goal.loop-n-init
loop-n-init c = put-none _

pub loop-n-preserved : goal.loop-n-preserved
loop-n-preserved c =
    let L = c.loop-n in
    put-turn spaced _ L.n-index 0 (omega arith) L.invariant c.short.ensures

pub returns : goal.returns
returns c = put-each 6 spaced c.args.ns.now c.loop-n.n-index (omega arith) c.loop-n.invariant
