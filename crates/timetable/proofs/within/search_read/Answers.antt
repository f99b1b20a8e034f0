-- By the answer of the reading.
use mathlib.Core.Path.{◌∙◌}
use Rattle.file.specs.Record.{took}
use Rattle.timetable.proofs.WithinLaws.{taken-within, refused-within}
use Rattle.timetable.proofs.within.search_read.Goals as goal

pub returns-in-Ok : goal.returns-in-Ok
returns-in-Ok c =
    c.take_search_within.ensures ∙ taken-within (took c.args.answer c.args.reader.now) c.args.limit c.in-Ok.is

pub returns-in-Err : goal.returns-in-Err
returns-in-Err c = refused-within (took c.args.answer c.args.reader.now) c.args.limit c.in-Err.is
