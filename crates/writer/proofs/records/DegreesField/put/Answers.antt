-- One after the other.
use native.Mathlib.Omega.{arith}
use Rattle.buffer.proofs.PutLaws.{put_then, put-within}
use Rattle.writer.proofs.records.DegreesField.put.Goals as goal

pub returns : goal.returns
returns c =
    let p = rw (c.bits.ensures, c.bits-2.ensures) at (put_then c.u64.ensures c.u64-2.ensures) in
    put-within 256 (omega (arith, p.small)) p
