-- `answer_of`: by the variant.
use mathlib.Core.Path.{sym, ap}
use Rattle.lent_c.specs.Plain.{answer_of}
use Rattle.lent_c.proofs.answer_of.Goals as goal

pub returns-in-Some : goal.returns-in-Some
unfolding answer_of
returns-in-Some c = ap answer_of (sym c.in-Some.is)

pub returns-in-None : goal.returns-in-None
unfolding answer_of
returns-in-None c = ap answer_of (sym c.in-None.is)
