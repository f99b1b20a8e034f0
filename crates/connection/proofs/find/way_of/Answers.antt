-- Three legs.
use Rattle.connection.specs.Find.{way_of}
use Rattle.connection.proofs.find.way_of.Goals as goal

pub returns : goal.returns
unfolding way_of
returns c = λ i. record { first = c.find_leg.ensures i; second = c.find_leg-2.ensures i; third = c.find_leg-3.ensures i }
