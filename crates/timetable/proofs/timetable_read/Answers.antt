-- The file read to a fresh reader.
use mathlib.Core.Path.{ap, ◌∙◌}
use Rattle.refusal.specs.First.{answer_number}
use Rattle.file.specs.declared.RecordResult.{RecordResult}
use Rattle.reader.proofs.ReadLaws.{read-all}
use Rattle.timetable.specs.List.{list_of}
use Rattle.timetable.proofs.timetable_read.Goals as goal

pub returns-clause-number : goal.returns-clause-number
returns-clause-number c =
    c.number_of.ensures ∙ ap (λ (t : RecordResult). answer_number t.answer)
    (read-all c.args.file.now c.fresh-reader.ensures c.is_second.ensures c.read_to-answer.ensures)

pub returns-clause-list_after : goal.returns-clause-list_after
returns-clause-list_after c =
    c.list_by.ensures ∙ ap list_of
    (read-all c.args.file.now c.fresh-reader.ensures c.is_second.ensures c.read_to-answer.ensures)
