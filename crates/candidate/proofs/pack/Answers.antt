-- `pack` meets its contract, row by row.
use mathlib.Core.Path.{refl, ◌∙◌}
use Prim.Native.Nat.{◌<◌}
use native.Mathlib.Omega.{arith}
use Rattle.search_state.specs.Layout.{slots}
use Rattle.search_state.proofs.RowLaws.{row-got}
use Rattle.candidate.proofs.StepLaws.{pack-kept, pack-gone}
use Rattle.candidate.proofs.pack.Goals.{then-stays, else-stays}
use Rattle.candidate.proofs.pack.Goals as goal

pub store-requires : goal.store-requires
store-requires g c =
    let i = c.loop-i.invariant in
    let p = c.requires in
    (omega (arith, i.2, c.loop-i-test.true, p), row-got _ _ _ (omega (arith, c.loop-i-test.true, p)) c.row_at-k.ensures)

pub loop-i-preserved : goal.loop-i-preserved
loop-i-preserved g c =
    let i = c.loop-i.invariant in
    let lt : c.loop-i.i < slots = omega (arith, c.loop-i-test.true, c.requires) in
    elim c.if-stays.branch [
      | then-stays w ↦ (
        i.0,
        c.if-stays.array_long,
        omega (arith, w.n-is, i.2),
        λ p says s.
            rw w.n-is (pack-kept p _ _ _ _ _ lt _ c.row_at-k.ensures (says _ _ w.if-stays.ensures) (i.3 p says s) refl
            (w.st-is ∙ w.store.ensures)),
      )
      | else-stays w ↦ (
        i.0,
        c.if-stays.array_long,
        omega (arith, w.n-is, i.2),
        λ p says s. rw w.n-is (pack-gone p _ _ _ _ _ lt _ c.row_at-k.ensures (says _ _ w.if-stays.ensures) (i.3 p says s) refl w.st-is),
      )
    ]
