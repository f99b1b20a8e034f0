-- The contract cites what is proved.
use Rattle.saved.proofs.WitnessLaws.{proved}
use Rattle.saved.proofs.read_back.Goals as goal

pub returns : goal.returns
returns c = proved
