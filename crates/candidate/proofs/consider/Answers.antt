-- `consider` meets its contract: the end of the kept rows is marked, and they are walked.
use mathlib.Core.Path.{refl}
use Rattle.search_state.proofs.ViewLaws.{few}
use Rattle.candidate.proofs.OfferLaws.{marked-open, marked-horizon, marked-count, marked-ends, marked-view}
use Rattle.candidate.proofs.consider.Goals as goal

pub mark-requires : goal.mark-requires
mark-requires c = few _ _ c.count-c.ensures

pub walked-requires : goal.walked-requires
walked-requires c =
    let p = c.requires in
    let n = c.count-c.ensures in
    let m = c.mark.ensures in (
      marked-open _ _ _ _ c.told-st n m p.0,
      rw (marked-horizon _ _ _ _ c.told-st n m) p.1,
      marked-count _ _ _ _ c.told-st n m,
      marked-ends _ _ _ _ c.told-st n m _ refl,
    )

pub returns : goal.returns
returns c =
    rw (← marked-view _ _ _ _ c.told-st c.count-c.ensures c.mark.ensures) c.walked.ensures
