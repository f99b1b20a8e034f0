-- `earliest_of` meets its contract.
use Rattle.limited_rides.proofs.earliest.earliest_of.Goals as goal

pub returns : goal.returns
returns c = let e = c.first.ensures in rw (← e.same, ← e.count) c.least_of.ensures
