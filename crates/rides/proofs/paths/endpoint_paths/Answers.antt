-- `endpoint_paths` meets its contract: a pass up to one change, and with more a pass of three rides.
use Rattle.rides.proofs.PassLaws.{pass_alone, pass-then}
use Rattle.rides.proofs.paths.endpoint_paths.Goals as goal

pub returns-then-depth-ge2 : goal.returns-then-depth-ge2
returns-then-depth-ge2 c =
    let e = c.first-lent.ensures in
    rw (← e.calls, ← e.changes) (pass-then _ _ _ _ e.count c.min.ensures c.up_to_one.ensures c.if-depth-ge2.true c.with_two.ensures)

pub returns-else-depth-ge2 : goal.returns-else-depth-ge2
returns-else-depth-ge2 c =
    let e = c.first-lent.ensures in
    rw (← e.calls, ← e.changes) (pass_alone _ _ _ _ e.count c.min.ensures c.up_to_one.ensures c.if-depth-ge2.false)
