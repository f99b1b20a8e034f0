-- None where the second is not asked, and the first from it on where it is.
use mathlib.Core.Path.{◌∙◌}
use Rattle.best.proofs.TurnLaws.{asked-then, as_is}
use Rattle.timetable.specs.Queries.{first_leaving}
use Rattle.timetable.proofs.queries.first_leaving.Goals as goal

pub returns-in_err-asked : goal.returns-in_err-asked
unfolding first_leaving
returns-in_err-asked c =
    c.from_residual.ensures ∙ asked-then _ _ c.in_err-asked.was c.asked.ensures (as_is c.args.second c.ranges.second)

pub returns : goal.returns
unfolding first_leaving
returns c = c.first_from.ensures ∙ asked-then _ _ c.in_ok-asked.was c.asked.ensures (as_is c.args.second c.ranges.second)
