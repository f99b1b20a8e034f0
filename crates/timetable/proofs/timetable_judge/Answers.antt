-- The file read to a fresh reader.
use mathlib.Core.Path.{ap, ◌∙◌}
use Rattle.refusal.specs.First.{answer_number}
use Rattle.file.specs.declared.RecordResult.{RecordResult}
use Rattle.reader.proofs.ReadLaws.{read-all}
use Rattle.timetable.specs.Verdicts.{judged_of}
use Rattle.timetable.proofs.timetable_judge.Goals as goal

pub returns-clause-number : goal.returns-clause-number
returns-clause-number c =
    c.number_of.ensures ∙ ap (λ (t : RecordResult). answer_number t.answer)
    (read-all c.args.file.now c.fresh-reader.ensures c.is_second.ensures c.read_to-answer.ensures)

pub returns-clause-verdict_after : goal.returns-clause-verdict_after
returns-clause-verdict_after c =
    c.judged.ensures ∙ ap (λ (t : RecordResult). judged_of t c.args.connection.now)
    (read-all c.args.file.now c.fresh-reader.ensures c.is_second.ensures c.read_to-answer.ensures)
