-- Line after line.
use native.Mathlib.Omega.{arith}
use Rattle.buffer.proofs.PutLaws.{put-none, put-turn, put-each}
use Rattle.verdict_lines.specs.Lines.{connection_line}
use Rattle.verdict_lines.proofs.LineLaws.{lines-put}
use Rattle.verdict_lines.proofs.put_lines.Goals as goal

pub loop-connection-init : goal.loop-connection-init
loop-connection-init c = put-none _

pub loop-connection-preserved : goal.loop-connection-preserved
loop-connection-preserved c =
    let L = c.loop-connection in
    put-turn (connection_line c.args.load.now) _ L.connection-index _ (omega arith) L.invariant c.connection_line.ensures

pub returns : goal.returns
returns c =
    let L = c.loop-connection in
    let cs = c.as_chunks.result.0.now in
    let p = put-each 101 (connection_line c.args.load.now) cs L.connection-index (omega arith) L.invariant in
    lines-put c.args.load.now c.args.b.now c.as_chunks.ensures.front c.as_chunks.ensures.front_len p
