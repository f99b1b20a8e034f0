-- `has_left` meets its contract.
use Rattle.std.proofs.Common.{refl}
use Rattle.limited_rides.specs.Runs.{has_left}
use Rattle.limited_rides.proofs.tally.has_left.Goals as goal

pub returns-in-Some : goal.returns-in-Some
unfolding has_left
returns-in-Some c = rw c.in-Some.is refl

pub returns-in-None : goal.returns-in-None
unfolding has_left
returns-in-None c = rw c.in-None.is refl
