-- `paths_within` meets its contract.
use Rattle.limited_rides.proofs.WithinLaws.{within-arrays}
use Rattle.limited_rides.proofs.within.paths_within.Goals as goal

pub returns : goal.returns
returns c =
    let e = c.first.ensures in
    rw (← e.calls, ← e.changes) (within-arrays _ _ _ _ _ e.count c.run.ensures c.tested.ensures)
