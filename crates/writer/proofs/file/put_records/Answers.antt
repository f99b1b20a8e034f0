-- Record after record.
use native.Mathlib.Omega.{arith}
use Rattle.buffer.proofs.PutLaws.{put-none, put_item, put-each}
use Rattle.codec.specs.Shapes.{framed}
use Rattle.writer.proofs.file.put_records.Goals as goal

pub loop-item-init : goal.loop-item-init
loop-item-init g c = put-none _

pub loop-item-preserved : goal.loop-item-preserved
loop-item-preserved g c =
    let L = c.loop-item in
    put_item (λ r. framed (g.R.Record.body c.args.stops.now r)) c.args.items.now L.item-index _
    (omega arith) c.item-item.is L.invariant c.put_record.ensures

pub returns : goal.returns
returns g c = put-each 65537 (λ r. framed (g.R.Record.body c.args.stops.now r)) c.args.items.now c.loop-item.item-index
    (omega arith) c.loop-item.invariant
