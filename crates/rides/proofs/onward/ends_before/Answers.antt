-- `ends_before` meets its contract: a loop over the targets.
use Rattle.std.proofs.Common.{ap}
use Rattle.rides.specs.Loops.{over_bits}
use Rattle.rides.specs.Places.{digits_left}
use Rattle.rides.proofs.LoopLaws.{digits-small}
use Rattle.rides.proofs.RestLaws.{rest-same, rest-turn, rest-none}
use Rattle.rides.proofs.onward.ends_before.Goals as goal

pub loop-x-init : goal.loop-x-init
loop-x-init c = (tt, tt, rest-same (ap digits_left c.into_iter-x-iterator.ensures.into_iter_gives), c.requires)

pub end_before-over-requires : goal.end_before-over-requires
end_before-over-requires c = (digits-small _ c.in-Some.ensures.steps, c.loop-x.invariant.3)

pub loop-x-preserved : goal.loop-x-preserved
loop-x-preserved c =
    let w = c.end_before-over.ensures in
    (tt, tt, rest-turn c.in-Some.ensures.steps c.loop-x.invariant.2 w.offered, w.over)

pub returns : goal.returns
unfolding over_bits
returns c = record { offered = rest-none c.in-None.ensures.steps.0 c.loop-x.invariant.2; over = c.loop-x.invariant.3 }
