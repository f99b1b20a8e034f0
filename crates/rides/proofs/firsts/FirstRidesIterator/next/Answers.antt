-- `next` meets its contract.
use Rattle.std.proofs.Common.{◌∙◌, ap, length, arith}
use Rattle.laws.specs.Bits.{bits_of}
use Rattle.laws.proofs.Places.{span-cons}
use Rattle.search_input.specs.Feed.{call_at, same_run}
use Rattle.rides.proofs.FirstLaws.{taken-below, four-bits, next-board}
use Rattle.rides.proofs.LoopLaws.{digits-small}
use Rattle.rides.proofs.firsts.FirstRidesIterator.next.Goals as goal

pub invariant_of-result : goal.invariant_of-result
invariant_of-result c =
    let r = c.seek.self.later in
    let h = taken-below (λ k. same_run r.call (call_at r.calls.feed.now k)) r.next r.calls.n c.in-Some.ensures.steps in
    record { placed = (c.seek.self.placed.0, omega (arith, r.calls.fits)) }

pub from_origin-self-requires : goal.from_origin-self-requires
from_origin-self-requires c = (c.seek.self.placed.0, digits-small _ c.in-Some-next.ensures.steps)

pub invariant_of-self-in-Some-next : goal.invariant_of-self-in-Some-next
invariant_of-self-in-Some-next c = record { placed = (c.seek.self.placed.0, digits-small _ c.in-Some-next.ensures.steps) }

pub seek-smaller : goal.seek-smaller
seek-smaller c = omega (arith, four-bits c.origins_at-self.result.left, ap length c.in_default.ensures.steps.1)

pub seek-preserved : goal.seek-preserved
seek-preserved c =
    let s = c.seek.self in
    c.seek.invariant
    ∙ next-board s.calls.feed.now s.calls.n s.origin s.board
    (bits_of c.origins_at-self.result.left) c.in_default.ensures.steps.0 c.in_default-next.ensures.steps.0
    (span-cons s.next s.calls.n c.if-self.true) c.in_default.ensures.steps.1 c.origins_at-self.ensures
