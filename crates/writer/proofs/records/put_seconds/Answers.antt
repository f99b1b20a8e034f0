-- The byte 1, then the time.
use Rattle.buffer.proofs.PutLaws.{put_then}
use Rattle.writer.proofs.records.put_seconds.Goals as goal

pub returns : goal.returns
returns c = rw c.from.ensures at (put_then c.byte.ensures c.u32.ensures)
