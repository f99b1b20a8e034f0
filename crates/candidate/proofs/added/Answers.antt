-- `added` meets its contract: the row is stored, and then counted or one too many.
use mathlib.Core.Path.{refl}
use native.Mathlib.Omega.{arith}
use Rattle.candidate.specs.Pieces.{Open, put_row}
use Rattle.candidate.proofs.OfferLaws.{added-fits, added-open, added-too-many}
use Rattle.candidate.proofs.added.Goals as goal

pub returns-then-n-lt-KEPT : goal.returns-then-n-lt-KEPT
unfolding Open put_row
returns-then-n-lt-KEPT c =
    let p = c.requires in
    added-fits _ _ _ _ c.told-st p.0 c.put_row.ensures _ (omega (arith, c.if-n-lt-KEPT.true)) refl

pub overflow-requires : goal.overflow-requires
unfolding Open put_row
overflow-requires c =
    let p = c.requires in
    let a = c.args in
    let e = c.put_row.ensures in
    added-open a.st.now _ a.n a.o c.told-st p.0 e p.1

pub returns : goal.returns
unfolding Open put_row
returns c =
    let p = c.requires in
    added-too-many _ _ _ _ c.told-st p.0 c.put_row.ensures _ p.1 (omega (arith, c.if-n-lt-KEPT.false)) c.overflow.ensures
