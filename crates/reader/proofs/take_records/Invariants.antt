-- What is left of the records gives what all of them give.
use Rattle.file.specs.Framed.{records_left}
use Rattle.reader.proofs.ReadLaws.{Rest}
use Rattle.reader.proofs.take_records.Given as goal

abbrev pub invariant-loop-b : goal.invariant-loop-b
invariant-loop-b l = Rest l.fn.reader l.bytes l.reader l.used (records_left l.b-iterator)
