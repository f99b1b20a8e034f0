-- Part after part.
use native.Mathlib.Omega.{arith}
use Rattle.writer.proofs.FileLaws.{file-put, search-there, search-none}
use Rattle.writer.proofs.file.put_parts.Goals as goal

pub returns-then-load : goal.returns-then-load
returns-then-load c =
    file-put c.args.load.now (omega arith) (omega arith)
    (omega arith) c.first.ensures c.first-2.ensures c.first-3.ensures c.byte.ensures c.put_record.ensures
    c.put_records.ensures c.put_records-2.ensures c.put_records-3.ensures (search-there c.if-load.true c.bytes.ensures)

pub returns-else-load : goal.returns-else-load
returns-else-load c =
    file-put c.args.load.now (omega arith) (omega arith)
    (omega arith) c.first.ensures c.first-2.ensures c.first-3.ensures c.byte.ensures c.put_record.ensures
    c.put_records.ensures c.put_records-2.ensures c.put_records-3.ensures (search-none c.if-load.false)
