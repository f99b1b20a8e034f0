-- `directs` meets its contract: a loop over the stop's targets.
use Rattle.std.proofs.Common.{ap}
use Rattle.laws.specs.Bits.{bits_of}
use Rattle.rides.specs.Loops.{over_bits, direct_rows}
use Rattle.rides.specs.Places.{digits_left}
use Rattle.rides.specs.Sheets.{sheet_of}
use Rattle.rides.proofs.LoopLaws.{digits-small}
use Rattle.rides.proofs.RestLaws.{for-start, for-turn, rest-none}
use Rattle.rides.proofs.paths.directs.Goals as goal

pub loop-x-init : goal.loop-x-init
loop-x-init c = for-start digits_left c.into_iter-x-iterator.ensures.into_iter_gives (ap bits_of c.targets-x-items.ensures)

pub direct_at-requires : goal.direct_at-requires
direct_at-requires c = digits-small _ c.in-Some.ensures.steps

pub loop-x-preserved : goal.loop-x-preserved
loop-x-preserved c = for-turn c.in-Some.ensures.steps c.loop-x.invariant.2 c.direct_at.ensures

pub returns : goal.returns
unfolding over_bits direct_rows sheet_of
returns c = rest-none c.in-None.ensures.steps.0 c.loop-x.invariant.2
