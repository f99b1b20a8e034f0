-- `since_none` meets its contract.
use Rattle.rides.proofs.OverLaws.{over-late}
use Rattle.rides.proofs.since.since_none.Goals as goal

pub returns : goal.returns
returns c f = record { one = over-late c.late-t.ensures; two = over-late c.late-t.ensures }
