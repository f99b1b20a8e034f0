-- `late` meets its contract.
use Rattle.std.proofs.Common.{refl}
use Rattle.candidate.proofs.FromLaws.{late-passed}
use Rattle.candidate.proofs.times.late.Goals as goal

pub returns : goal.returns
returns c leave rides walk = late-passed _ _ _ leave rides walk c.horizon.ensures refl
