-- `passed_none` meets its contract.
use Rattle.rides.proofs.OverLaws.{over-late}
use Rattle.rides.proofs.since.passed_none.Goals as goal

pub returns : goal.returns
returns c f rides = over-late c.late.ensures
