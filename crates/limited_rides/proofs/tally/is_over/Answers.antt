-- `is_over` meets its contract.
use Rattle.limited_rides.proofs.RunLaws.{over-refused, over-stopped}
use Rattle.limited_rides.proofs.tally.is_over.Goals as goal

pub returns-in-Some : goal.returns-in-Some
returns-in-Some c = rw c.in-Some.is (over-refused _ _ c.is_refused.ensures)

pub returns-in-None : goal.returns-in-None
returns-in-None c = rw c.in-None.is (over-stopped _)
