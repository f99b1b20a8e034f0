-- The contract cites what is proved.
use Rattle.tutor.proofs.WitnessLaws.{proved}
use Rattle.tutor.proofs.tutors_answer.Goals as goal

pub returns : goal.returns
returns c = proved
