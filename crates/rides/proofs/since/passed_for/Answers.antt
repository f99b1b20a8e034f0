-- `passed_for` meets its contract.
use Rattle.rides.proofs.OverLaws.{over-alike}
use Rattle.rides.proofs.since.passed_for.Goals as goal

pub returns-then-is_alike : goal.returns-then-is_alike
returns-then-is_alike c rides w = over-alike c.is_alike.ensures c.if-is_alike.true w

pub returns : goal.returns
returns c rides w = c.passed_none.ensures _ _
