-- One after the other.
use native.Mathlib.Omega.{arith}
use mathlib.Core.List.{append-nil}
use Rattle.buffer.proofs.PutLaws.{put_then, put_as, put-within}
use Rattle.lines.proofs.text.line.Goals as goal

pub returns : goal.returns
returns c =
    let p = put_as (simp append-nil) (put_then c.bytes.ensures (put_then c.numbers.ensures c.byte.ensures)) in
    put-within _ (omega (arith, p.small)) p
