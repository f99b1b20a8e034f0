-- A file of one byte is begun, any other is read.
use mathlib.Core.Path.{refl}
use Rattle.reader.proofs.ReadLaws.{read-all}
use Rattle.timetable.proofs.AppendLaws.{far-begun, far-read}
use Rattle.timetable.proofs.append.so_far.Goals as goal

pub returns-then-file-eq1 : goal.returns-then-file-eq1
returns-then-file-eq1 c = far-begun _ c.if-file-eq1.true c.version.ensures c.requires.fresh

pub returns : goal.returns
returns c = far-read _ c.if-file-eq1.false (read-all c.args.file.now c.requires.fresh refl c.read_to.ensures)
