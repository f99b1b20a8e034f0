-- `end_before` meets its contract: an offer, unless it is due too late.
use Rattle.rides.proofs.OnwardLaws.{end-out, end-made}
use Rattle.rides.proofs.onward.end_before.Goals as goal

pub returns-then-due-over : goal.returns-then-due-over
returns-then-due-over c =
    end-made _ _ _ _ _ _ _ (rw (← c.target_walk.ensures, ← c.at.ensures) c.arrival_of-due.ensures) c.end_at.ensures

pub returns : goal.returns
returns c =
    end-out _ _ _ _ _ _ _ (rw (← c.target_walk.ensures, ← c.at.ensures) c.arrival_of-due.ensures) c.if-due-over.false c.requires.1
