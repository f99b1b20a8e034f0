-- By the answer.
use mathlib.Core.Path.{ap, sym, ◌∙◌}
use Rattle.refusal.specs.First.{Answer}
use Rattle.timetable.specs.List.{refused_list, list_by}
use Rattle.timetable.proofs.list.list_by.Goals as goal

pub returns-in-Ok : goal.returns-in-Ok
unfolding list_by
returns-in-Ok c = c.load_list.ensures ∙ ap (λ (a : Answer). list_by a c.args.joins c.args.load.now) (sym c.in-Ok.is)

pub returns-in-Err : goal.returns-in-Err
unfolding list_by
returns-in-Err c =
    c.refused_list.ensures ∙ ap refused_list c.from.ensures
    ∙ ap (λ (a : Answer). list_by a c.args.joins c.args.load.now) (sym c.in-Err.is)
