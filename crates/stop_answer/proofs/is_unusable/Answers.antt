-- By the name's key.
use mathlib.Core.Path.{sym, ◌∙◌}
use Rattle.stops.proofs.Names.{by_key}
use Rattle.stop_answer.proofs.is_unusable.Goals as goal

pub returns : goal.returns
returns c = c.is_err.ensures.value ∙ sym (by_key _ _ (sym c.name_key.ensures))
