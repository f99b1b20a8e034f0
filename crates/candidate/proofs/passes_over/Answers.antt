-- `passes_over` meets its contract: too late, or the walk passes it over; the mark behind the kept rows is not seen.
use mathlib.Core.Path.{refl, ◌∙◌}
use Rattle.profile.specs.Journeys.{due, row_of}
use Rattle.search_state.proofs.ViewLaws.{few}
use Rattle.candidate.proofs.PassedLaws.{passed-late, passed-covered}
use Rattle.candidate.proofs.TurnLaws.{end-is-ok}
use Rattle.candidate.proofs.OfferLaws.{marked-ends, marked-view, marked-passing}
use Rattle.candidate.proofs.passes_over.Goals as goal

pub returns-then-too_late : goal.returns-then-too_late
unfolding row_of due
returns-then-too_late c = (refl, passed-late _ _ _ c.too_late.ensures c.if-too_late.true)

pub mark-requires : goal.mark-requires
mark-requires c = few _ _ c.count-c.ensures

pub first_near-requires : goal.first_near-requires
first_near-requires c =
    let n = c.count-c.ensures in
    let k = c.told-st in
    (few _ _ n, marked-ends _ _ _ _ k n c.mark.ensures _ refl)

pub returns : goal.returns
unfolding row_of due
returns c =
    let n = c.count-c.ensures in
    let k = c.told-st in
    let m = c.mark.ensures in
    let e = c.is_ok.ensures.value ∙ end-is-ok _ _ c.first_near.ensures in (
      marked-view _ _ _ _ k n m,
      rw c.no_row.ensures at (passed-covered _ _ _ _ _ c.too_late.ensures c.if-too_late.false n (marked-passing _ _ _ _ k n m _ _ e)),
    )
