-- None where the second is not asked, and the first from it on where it is.
use mathlib.Core.Path.{◌∙◌}
use Rattle.best.proofs.TurnLaws.{asked-then, as_is}
use Rattle.best.proofs.FirstLaws.{first-asked}
use Rattle.best.proofs.first_leaving.Goals as goal

pub returns-in_err-asked : goal.returns-in_err-asked
returns-in_err-asked c =
    let s = c.args.second in
    c.from_residual.ensures ∙ asked-then _ _ c.in_err-asked.was c.asked.ensures (as_is s c.ranges.second)
    ∙ first-asked _ s c.args.journeys.now

pub returns : goal.returns
returns c =
    let s = c.args.second in
    c.first_from.ensures ∙ asked-then _ _ c.in_ok-asked.was c.asked.ensures (as_is s c.ranges.second) ∙ first-asked _ s c.args.journeys.now
