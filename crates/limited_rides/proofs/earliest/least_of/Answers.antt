-- `least_of` meets its contract: a loop over the calls from the right.
use Rattle.std.proofs.Common.{refl, arith}
use Rattle.limited_rides.proofs.DueLaws.{calls-start, calls-next, calls-turn, calls-done}
use Rattle.limited_rides.proofs.earliest.least_of.Goals as goal

pub loop-j-init : goal.loop-j-init
loop-j-init c = calls-start

pub at_later-next-requires : goal.at_later-next-requires
at_later-next-requires c = (omega arith, calls-next _ c.loop-j-test.true refl c.loop-j.invariant)

pub loop-j-preserved : goal.loop-j-preserved
loop-j-preserved c =
    calls-turn _ c.loop-j-test.true refl c.loop-j.invariant c.at_later-next.ensures c.at_boarding.ensures c.sooner-least.ensures

pub returns : goal.returns
returns c = calls-done (omega arith) c.loop-j.invariant
