-- `row_at` meets its contract: the rides that are joined, if one can alight at the place.
use Rattle.rides.proofs.JoinedLaws.{row-some, row-none}
use Rattle.rides.proofs.reach.row_at.Goals as goal

pub returns-then-at : goal.returns-then-at
returns-then-at c = row-some _ _ _ _ _ c.first_ride.ensures c.blocks_least.ensures

pub returns : goal.returns
returns c = row-none _ _ _ _ _ _ c.at.ensures c.if-at.false
