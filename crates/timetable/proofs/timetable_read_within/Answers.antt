-- The file read to a fresh reader, and its load searched there.
use mathlib.Core.Path.{ap, ◌∙◌}
use Rattle.refusal.specs.First.{answer_number}
use Rattle.file.specs.declared.RecordResult.{RecordResult}
use Rattle.search.specs.Within.{Answered}
use Rattle.reader.proofs.ReadLaws.{read-all}
use Rattle.timetable.specs.List.{within_of, list_within}
use Rattle.timetable.proofs.WithinLaws.{list-found}
use Rattle.timetable.proofs.timetable_read_within.Goals as goal

pub returns-clause-number : goal.returns-clause-number
returns-clause-number c =
    c.number_of.ensures ∙ ap answer_number (c.answer_of-answer.ensures c.search_read-tested.new.reader.load)
    ∙ ap (λ (w : Answered). answer_number w.answer) c.search_read-tested.ensures
    ∙ ap (λ (t : RecordResult). answer_number (within_of t c.args.limit).answer)
    (read-all c.args.file.now c.fresh-reader.ensures c.is_second.ensures c.read_to-read.ensures)

pub returns-clause-list_after : goal.returns-clause-list_after
returns-clause-list_after c =
    c.list_by.ensures
    ∙ list-found c.search_read-tested.new.reader.load c.search_read-tested.result (c.answer_of-answer.ensures _) (c.joins_of.ensures _)
    c.search_read-tested.ensures
    ∙ ap (λ (t : RecordResult). list_within (within_of t c.args.limit))
    (read-all c.args.file.now c.fresh-reader.ensures c.is_second.ensures c.read_to-read.ensures)
