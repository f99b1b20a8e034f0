-- `direct_paths` meets its contract: what is over stays as it is.
use Rattle.limited_rides.proofs.RunLaws.{over-met, offered-met}
use Rattle.limited_rides.proofs.WithinLaws.{direct-events}
use Rattle.limited_rides.proofs.paths.direct_paths.Goals as goal

pub returns-then-is_over : goal.returns-then-is_over
returns-then-is_over c = over-met c.is_over.ensures c.if-is_over.true

pub returns : goal.returns
returns c = rw (direct-events _ _ _) (offered-met c.is_over.ensures c.if-is_over.false c.direct_pass.ensures)
