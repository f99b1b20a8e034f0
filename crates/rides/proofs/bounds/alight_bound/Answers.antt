-- `alight_bound` meets its contract: the targets of the stop, if the call is alightable.
use Rattle.rides.proofs.BoundLaws.{alight-some, alight-none}
use Rattle.rides.proofs.bounds.alight_bound.Goals as goal

pub returns-then-c : goal.returns-then-c
returns-then-c c = alight-some _ _ _ _ c.at-c.ensures c.targets.ensures c.target_bound.ensures

pub returns : goal.returns
returns c = alight-none _ _ _ c.at-c.ensures c.if-c.false
