-- The two words and their numbers, one after the other.
use mathlib.Core.List.{append-nil}
use Rattle.buffer.proofs.PutLaws.{put_then, put_as}
use Rattle.lines.specs.Lines.{horizon_line_of}
use Rattle.lines.proofs.text.horizon_line.Goals as goal

pub returns : goal.returns
unfolding horizon_line_of
returns c =
    let p = rw c.from.ensures at (put_then c.bytes-2.ensures (put_then c.numbers-2.ensures c.byte.ensures)) in
    put_as (simp append-nil) (put_then c.bytes.ensures (put_then c.numbers.ensures p))
