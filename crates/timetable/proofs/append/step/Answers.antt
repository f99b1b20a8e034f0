-- By the answer so far.
use mathlib.Core.Path.{ap, ◌∙◌}
use Rattle.file.specs.Record.{fresh_reader}
use Rattle.timetable.proofs.AppendLaws.{step-refused, step-taken}
use Rattle.timetable.proofs.append.step.Goals as goal

pub so_far-answer-requires : goal.so_far-answer-requires
so_far-answer-requires c = record { fresh = c.fresh-reader.ensures ∙ ap fresh_reader c.is_second.ensures }

pub returns-then-is_refused : goal.returns-then-is_refused
returns-then-is_refused c = step-refused _ _ c.so_far-answer.ensures c.is_refused.ensures c.if-is_refused.true

pub returns : goal.returns
returns c = step-taken _ _ c.so_far-answer.ensures c.is_refused.ensures c.if-is_refused.false c.take_record.ensures
