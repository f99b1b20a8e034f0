-- `from_origin` meets its contract.
use Rattle.std.proofs.Common.{arith}
use Rattle.search_input.specs.Feed.{call_at, same_run}
use Rattle.rides.proofs.FirstLaws.{few-later, origin-walked, origin-far}
use Rattle.rides.proofs.firsts.FirstRides.from_origin.Goals as goal

pub returns-then-can_walk-clause-rides : goal.returns-then-can_walk-clause-rides
returns-then-can_walk-clause-rides c =
    rw c.than.ensures (origin-walked _ _ _ _ (rw (← c.origin_walk.ensures, ← c.at.ensures) c.can_walk.ensures) c.if-can_walk.true)

pub returns-then-can_walk-clause-few : goal.returns-then-can_walk-clause-few
returns-then-can_walk-clause-few c =
    let r = c.than.result in
    let h = few-later (λ k. same_run r.call (call_at r.calls.feed.now k)) r.next r.calls.n in
    omega (arith, r.calls.fits)

pub returns-clause-rides : goal.returns-clause-rides
returns-clause-rides c =
    origin-far _ _ _ _ (rw (← c.origin_walk.ensures, ← c.at.ensures) c.can_walk.ensures) c.if-can_walk.false c.none.ensures
