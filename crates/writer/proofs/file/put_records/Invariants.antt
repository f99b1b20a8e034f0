-- Record after record.
use Prim.Native.Nat.{◌*◌}
use lib.ListN.{take}
use Rattle.laws.specs.Lists.{concat_map}
use Rattle.buffer.specs.Put.{Put}
use Rattle.codec.specs.Shapes.{framed}
use Rattle.writer.proofs.file.put_records.Given as goal

abbrev pub invariant-loop-item : goal.invariant-loop-item
invariant-loop-item g l = Put (65537 * l.item-index)
    (concat_map (λ r. framed (g.R.Record.body l.stops r)) (take l.item-index l.items)) l.initial.out l.out
