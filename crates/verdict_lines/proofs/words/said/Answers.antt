-- The word, then number after number.
use native.Mathlib.Omega.{arith}
use Rattle.buffer.proofs.PutLaws.{put-none, put_then, put-turn, put-each}
use Rattle.lines.specs.Decimal.{spaced}
use Rattle.verdict_lines.proofs.words.said.Goals as goal

pub loop-n-init : goal.loop-n-init
loop-n-init c = put-none _

pub loop-n-preserved : goal.loop-n-preserved
loop-n-preserved c =
    let L = c.loop-n in
    put-turn spaced _ L.n-index 0 (omega arith) L.invariant c.number.ensures

pub returns : goal.returns
returns c = put_then c.bytes.ensures (put-each 21 spaced c.args.ns.now c.loop-n.n-index (omega arith) c.loop-n.invariant)
