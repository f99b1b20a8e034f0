-- What `get` gives.
use mathlib.Core.Path.{◌∙◌}
use Rattle.file.proofs.WholeLaws.{whole-got}
use Rattle.file.proofs.framed.whole.Goals as goal

pub returns : goal.returns
returns c = whole-got _ _ (c.from.ensures ∙ c.length_of.ensures) c.get.ensures.lookup
