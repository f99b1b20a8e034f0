-- The contract cites what is proved.
use Rattle.comparison.proofs.ProvedLaws.{proved}
use Rattle.comparison.proofs.demands.Goals as goal

pub returns : goal.returns
returns c = proved
