-- Before 0, after the horizon, and between.
use mathlib.Core.Path.{ap, ◌∙◌}
use Rattle.best.specs.Turn.{asked}
use Rattle.best.proofs.TurnLaws.{asked-before, asked-after, asked-within, as_is}
use Rattle.best.proofs.asked.Goals as goal
use Rattle.best.proofs.asked.Goals.{then-second-lt0-via-then-second-lt0, then-second-lt0-via-else-second-lt0+then-second-horizon}

pub returns-then-second-lt0 : goal.returns-then-second-lt0
returns-then-second-lt0 c =
    let e = as_is c.args.second c.ranges.second in
    elim c.then-second-lt0.branch [
      | then-second-lt0-via-then-second-lt0 w ↦ asked-before _ _ (rw e at w.if-second-lt0.true)
      | then-second-lt0-via-else-second-lt0+then-second-horizon w ↦
          asked-after _ _ (rw e at w.if-second-lt0.false) (rw e at w.if-second-horizon.true)
    ]

pub returns : goal.returns
returns c =
    let e = as_is c.args.second c.ranges.second in
    asked-within _ _ c.if-second-lt0.false c.if-second-horizon.false ∙ ap (asked c.args.horizon) e
