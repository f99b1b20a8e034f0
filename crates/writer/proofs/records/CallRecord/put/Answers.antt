-- Field after field.
use native.Mathlib.Omega.{arith}
use Rattle.buffer.proofs.PutLaws.{put_then, put-within}
use Rattle.codec.specs.Kinds.{call_body}
use Rattle.codec.specs.Parts.{call_input_of}
use Rattle.writer.proofs.records.CallRecord.put.Goals as goal

pub returns : goal.returns
unfolding call_body call_input_of
returns c =
    let types = rw (c.type_of.ensures, c.type_of-2.ensures) at (put_then c.byte-3.ensures c.byte-4.ensures) in
    let times = put_then c.put_seconds.ensures (put_then c.put_seconds-2.ensures types) in
    let p = put_then c.byte.ensures (put_then c.u16.ensures
    (put_then c.byte-2.ensures (put_then c.u32.ensures (put_then c.u16-2.ensures times)))) in
    put-within 65535 (omega (arith, p.small)) p
