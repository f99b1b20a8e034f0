-- By the answer of the reading.
use mathlib.Core.Path.{ap, sym, ◌∙◌}
use Rattle.refusal.specs.First.{Answer}
use Rattle.connection.specs.declared.Connection.{Connection}
use Rattle.verdict.specs.Verdicts.{verdict_of}
use Rattle.timetable.specs.Verdicts.{verdict_row, judged_by}
use Rattle.timetable.proofs.judged.judged.Goals as goal

pub returns-in-Ok : goal.returns-in-Ok
unfolding judged_by
returns-in-Ok c =
    c.verdict_row.ensures
    ∙ ap verdict_row (c.verdict.ensures ∙ ap (λ (x : Connection). verdict_of c.args.load.now x) c.connection_of.ensures)
    ∙ ap (λ (a : Answer). judged_by a c.args.load.now c.args.c.now) (sym c.in-Ok.is)

pub returns-in-Err : goal.returns-in-Err
unfolding judged_by
returns-in-Err c = c.said.ensures ∙ ap (λ (a : Answer). judged_by a c.args.load.now c.args.c.now) (sym c.in-Err.is)
