-- `preferred` meets its contract.
use mathlib.Core.Path.{◌∙◌}
use Rattle.profile.proofs.TupleLaws.{le-four}
use Rattle.profile.proofs.figures.Figures.preferred.Goals as goal

pub returns : goal.returns
returns c = c.le.ensures ∙ le-four _ _ _ _ _ _ _ _
