-- `at_alighting` meets its contract: the targets of the stop, if the call is alightable.
use Rattle.limited_rides.specs.Earliest.{alight_due}
use Rattle.limited_rides.proofs.DueLaws.{soonest-none}
use Rattle.limited_rides.proofs.earliest.at_alighting.Goals as goal

pub returns-then-c : goal.returns-then-c
unfolding alight_due
returns-then-c c = rw (← c.at-c.ensures, c.if-c.true, ← c.targets.ensures) c.at_targets.ensures

pub returns : goal.returns
unfolding alight_due
returns c = rw (← c.at-c.ensures, c.if-c.false) soonest-none
