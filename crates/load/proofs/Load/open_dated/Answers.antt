-- The opening by the answer of the settings and the dates.
use mathlib.Core.Path.{◌∙◌}
use Rattle.load.specs.Steps.{open_by, open_spec_of}
use Rattle.load.proofs.Load.open_dated.Goals as goal

pub returns : goal.returns
unfolding open_spec_of
returns c = c.opening.ensures ∙ (λ k. open_by (c.dated_answer.ensures k) c.args.settings (c.dated.ensures k))
