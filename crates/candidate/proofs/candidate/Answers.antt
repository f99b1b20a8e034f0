-- `candidate` meets its contract: passed over unread if too late, else considered.
use Rattle.profile.specs.Journeys.{due}
use Rattle.candidate.specs.Pieces.{Open}
use native.Mathlib.Omega.{arith}
use Rattle.search_state.specs.View.{horizon_of}
use Rattle.search_state.proofs.ViewLaws.{in_time}
use Rattle.candidate.proofs.OfferLaws.{offered-late}
use Rattle.candidate.proofs.candidate.Goals as goal

pub returns-then-too_late : goal.returns-then-too_late
unfolding due
returns-then-too_late c = offered-late _ _ _ c.too_late.ensures c.if-too_late.true

pub overflow_cast-offer : goal.overflow_cast-offer
unfolding horizon_of
overflow_cast-offer c =
    let w = (in_time _ _ _ c.too_late.ensures c.if-too_late.false).1 in
    omega (arith, w, c.fits-st 781)

pub consider-requires : goal.consider-requires
unfolding Open due
consider-requires c = in_time _ _ _ c.too_late.ensures c.if-too_late.false

pub returns : goal.returns
returns c = c.consider.ensures
