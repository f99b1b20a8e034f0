-- By the answer of the reading.
use mathlib.Core.Path.{ap, sym, ◌∙◌}
use lib.ListN.{length}
use Rattle.refusal.specs.First.{Answer}
use Rattle.timetable.specs.Written.{wrote_by, buffer_by}
use Rattle.timetable.proofs.wrote.write_file.Goals as goal

pub returns-in-Ok-clause-value : goal.returns-in-Ok-clause-value
unfolding wrote_by
returns-in-Ok-clause-value c =
    c.write.ensures.value ∙ ap (λ (a : Answer). wrote_by a c.args.load.now (length c.args.out.now)) (sym c.in-Ok.is)

pub returns-in-Ok-clause-out_after : goal.returns-in-Ok-clause-out_after
unfolding buffer_by
returns-in-Ok-clause-out_after c =
    c.write.ensures.out_after ∙ ap (λ (a : Answer). buffer_by a c.args.load.now c.args.out.now) (sym c.in-Ok.is)

pub returns-in-Err-clause-value : goal.returns-in-Err-clause-value
unfolding wrote_by
returns-in-Err-clause-value c = ap (λ (a : Answer). wrote_by a c.args.load.now (length c.args.out.now)) (sym c.in-Err.is)

pub returns-in-Err-clause-out_after : goal.returns-in-Err-clause-out_after
unfolding buffer_by
returns-in-Err-clause-out_after c =
    ap (λ (a : Answer). buffer_by a c.args.load.now c.args.out.now) (sym c.in-Err.is)
