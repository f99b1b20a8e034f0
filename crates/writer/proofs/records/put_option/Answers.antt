-- The byte 1, then the field; or the byte 0.
use Rattle.buffer.proofs.PutLaws.{put_then}
use Rattle.writer.proofs.records.put_option.Goals as goal

pub returns-in-Some : goal.returns-in-Some
returns-in-Some g c = rw c.in-Some.is (put_then c.byte.ensures c.put.ensures)
