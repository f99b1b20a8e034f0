-- `than` meets its contract.
use Rattle.rides.specs.Loops.{later_from}
use Rattle.rides.proofs.later.Later.than.Goals as goal

pub returns : goal.returns
unfolding later_from
returns c = rw c.at.ensures
