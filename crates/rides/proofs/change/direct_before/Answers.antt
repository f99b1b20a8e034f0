-- `direct_before` meets its contract: an offer, unless it is due too late.
use Rattle.rides.proofs.OverLaws.{direct-out, direct-made}
use Rattle.rides.proofs.change.direct_before.Goals as goal

pub returns-then-over-due : goal.returns-then-over-due
returns-then-over-due c = direct-out _ _ _ (rw (← c.target_walk.ensures) c.arrival_of-due.ensures) c.if-over-due.true c.requires.1

pub returns : goal.returns
returns c = direct-made _ _ _ (rw (← c.target_walk.ensures) c.arrival_of-due.ensures) c.direct_at.ensures
