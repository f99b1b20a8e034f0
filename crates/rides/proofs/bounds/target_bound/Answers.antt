-- `target_bound` meets its contract: a loop over the targets.
use Rattle.rides.proofs.BoundLaws.{mask-start, mask-turn, mask-done}
use Rattle.rides.proofs.LoopLaws.{digits-small}
use Rattle.rides.proofs.bounds.target_bound.Goals as goal

pub loop-x-init : goal.loop-x-init
loop-x-init c = rw c.into_iter-x-iterator.ensures.into_iter_gives (tt, tt, mask-start)

pub due_at-requires : goal.due_at-requires
due_at-requires c = digits-small _ c.in-Some.ensures.steps

pub loop-x-preserved : goal.loop-x-preserved
loop-x-preserved c = (tt, tt, mask-turn c.in-Some.ensures.steps c.due_at.ensures c.min-t.ensures c.loop-x.invariant.2)

pub returns : goal.returns
returns c = mask-done c.in-None.ensures.steps.0 c.loop-x.invariant.2
