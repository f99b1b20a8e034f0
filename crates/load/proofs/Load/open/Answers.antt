-- The opening by the answer of the settings.
use mathlib.Core.Path.{◌∙◌}
use Rattle.load.specs.Steps.{open_by, open_spec_of}
use Rattle.load.proofs.StepLaws.{undated-answer}
use Rattle.load.proofs.Load.open.Goals as goal

pub returns : goal.returns
unfolding open_spec_of
returns c = c.opening.ensures ∙ (λ k. open_by ((c.settings_answer.ensures ∙ undated-answer _) k) c.args.settings (c.undated.ensures k))
