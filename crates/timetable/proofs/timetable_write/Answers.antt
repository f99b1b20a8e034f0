-- The file read to a fresh reader.
use mathlib.Core.Path.{ap, ◌∙◌}
use lib.ListN.{length}
use Rattle.file.specs.declared.RecordResult.{RecordResult}
use Rattle.reader.proofs.ReadLaws.{read-all}
use Rattle.timetable.specs.Written.{wrote_of, buffer_of, length_of, wrote_number}
use Rattle.timetable.proofs.timetable_write.Goals as goal

pub returns-clause-number : goal.returns-clause-number
returns-clause-number c =
    c.wrote_number.ensures ∙ ap wrote_number c.write_file-wrote.ensures.value
    ∙ ap (λ (t : RecordResult). wrote_number (wrote_of t (length c.args.out.now)))
    (read-all c.args.file.now c.fresh-reader.ensures c.is_second.ensures c.read_to-answer.ensures)

pub returns-clause-out_after : goal.returns-clause-out_after
returns-clause-out_after c =
    c.write_file-wrote.ensures.out_after ∙ ap (λ (t : RecordResult). buffer_of t c.args.out.now)
    (read-all c.args.file.now c.fresh-reader.ensures c.is_second.ensures c.read_to-answer.ensures)

pub returns-clause-length : goal.returns-clause-length
returns-clause-length c =
    c.length_of.ensures ∙ ap length_of c.write_file-wrote.ensures.value
    ∙ ap (λ (t : RecordResult). length_of (wrote_of t (length c.args.out.now)))
    (read-all c.args.file.now c.fresh-reader.ensures c.is_second.ensures c.read_to-answer.ensures)
