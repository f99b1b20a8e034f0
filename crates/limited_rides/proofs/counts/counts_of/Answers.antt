-- `counts_of` meets its contract: a loop over the calls from the right.
use Rattle.std.proofs.Common.{refl, arith}
use Rattle.limited_rides.proofs.MadeLaws.{counted_start, counted_next, counted-fits, counted-turn, counted-done}
use Rattle.limited_rides.proofs.counts.counts_of.Goals as goal

pub loop-j-init : goal.loop-j-init
loop-j-init c = counted_start refl

pub alights_from-next-requires : goal.alights_from-next-requires
alights_from-next-requires c =
    (omega arith, omega (arith, c.loop-j.invariant.small), counted_next _ c.loop-j-test.true refl c.loop-j.invariant)

pub overflow_add-all : goal.overflow_add-all
overflow_add-all c =
    let h =
    counted-fits _ c.args.calls.now.fits c.loop-j-test.true refl c.loop-j.invariant c.alights_from-next.ensures c.rides_at-k.ensures in
    omega arith

pub loop-j-preserved : goal.loop-j-preserved
loop-j-preserved c =
    counted-turn _ c.args.calls.now.fits c.loop-j-test.true refl c.loop-j.invariant c.alights_from-next.ensures c.rides_at-k.ensures

pub returns : goal.returns
returns c = counted-done (omega arith) c.loop-j.invariant
