-- `spend` meets its contract: what is left falls by n, or the search stops.
use Rattle.limited_rides.proofs.RunLaws.{spent-some, spent-none}
use Rattle.limited_rides.proofs.tally.spend.Goals as goal

pub returns-in-Some : goal.returns-in-Some
returns-in-Some c = rw c.in-Some.is (spent-some c.checked_sub.ensures)

pub returns-in_default : goal.returns-in_default
returns-in_default c = rw c.in_default.is spent-none
