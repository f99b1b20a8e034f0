-- `last_alightings` meets its contract: a loop over the later calls of the run.
use Rattle.rides.specs.Places.{later_left}
use Rattle.rides.proofs.LoopLaws.{later-placed}
use Rattle.rides.proofs.RestLaws.{for-start, for-turn, rest-none}
use Rattle.limited_rides.specs.RowEvents.{run_events}
use Rattle.limited_rides.proofs.last.last_alightings.Goals as goal

pub loop-m-init : goal.loop-m-init
loop-m-init c = for-start later_left c.into_iter-m-iterator.ensures.into_iter_gives c.than-m-items.ensures

pub invariant_of-r : goal.invariant_of-r
invariant_of-r c = record { placed = later-placed _ c.in-Some.ensures.steps c.loop-m.invariant.2 c.requires c.args.lent.now.calls.fits }

pub loop-m-preserved : goal.loop-m-preserved
loop-m-preserved c = for-turn c.in-Some.ensures.steps c.loop-m.invariant.2 c.last_alight.ensures

pub returns : goal.returns
unfolding run_events
returns c = rest-none c.in-None.ensures.steps.0 c.loop-m.invariant.2
