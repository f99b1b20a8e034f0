-- The length, then the bytes.
use native.Mathlib.Omega.{arith}
use lib.ListN.{length-take}
use Rattle.buffer.proofs.PutLaws.{put_then, put-within}
use Rattle.writer.proofs.records.TextField.put.Goals as goal

pub overflow_cast-bytes : goal.overflow_cast-bytes
overflow_cast-bytes g c =
    record { fits = rw c.first-bytes.ensures (omega (arith, length-take c.from.result c.args.self.now.bytes, c.from.ensures)) }

pub returns : goal.returns
returns g c =
    let p = rw (c.first-bytes.ensures, c.from.ensures) at (put_then c.byte.ensures c.bytes.ensures) in
    put-within 256 (omega (arith, length-take c.args.self.now.len c.args.self.now.bytes)) p
