-- The version, the records, the end.
use Rattle.reader.proofs.ReadLaws.{used-room, read-refused, read-fed, read-ended}
use Rattle.reader.proofs.read_to.Goals as goal

pub returns-then-is_refused : goal.returns-then-is_refused
returns-then-is_refused c = read-refused _ _ c.version-answer.ensures c.is_refused.ensures c.if-is_refused.true

pub returns-then-is_refused-2 : goal.returns-then-is_refused-2
returns-then-is_refused-2 c =
    read-fed _ _ c.version-answer.ensures c.is_refused.ensures c.if-is_refused.false c.take_records-f.ensures c.is_refused-2.ensures
    c.if-is_refused-2.true

pub overflow_sub-bytes-2 : goal.overflow_sub-bytes-2
overflow_sub-bytes-2 c =
    used-room _ _ c.version-answer.ensures c.is_refused.ensures c.if-is_refused.false c.take_records-f.ensures

pub returns : goal.returns
returns c =
    read-ended _ _ c.version-answer.ensures c.is_refused.ensures c.if-is_refused.false c.take_records-f.ensures c.is_refused-2.ensures
    c.if-is_refused-2.false c.ended.ensures
