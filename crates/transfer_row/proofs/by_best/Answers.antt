-- Each place is filled with its entry.
use mathlib.Core.Path.{refl}
use native.Mathlib.Omega.{arith}
use Rattle.laws.proofs.Bounds.{get_d_any}
use Rattle.laws.proofs.Regions.{region-none, region-all}
use Rattle.transfer_row.proofs.Entries.{entry-by}
use Rattle.transfer_row.proofs.Filling.{row-more}
use Rattle.transfer_row.proofs.by_best.Goals as goal

pub loop-k-init : goal.loop-k-init
loop-k-init c = region-none _ 0 _

pub loop-k-preserved : goal.loop-k-preserved
loop-k-preserved c =
    let a = c.args in
    let t = a.transfers.now in
    let k = c.loop-k.k in
    row-more _ _ c.loop-k.row k _ c.loop-k.invariant (omega arith)
    (entry-by t.rules.now t.parents.now t.places.now a.from t.change k a.best.now (omega arith) c.requires.0 c.requires.1
    c.parent-from_parent.ensures c.place-from_place.ensures
    (get_d_any t.parents.now k 0 65535 (omega arith)) (get_d_any t.places.now k 0 65535 (omega arith))
    c.rule_by-rule.ensures c.are_near-near.ensures c.change_by.ensures c.change_number.ensures.value)

pub returns : goal.returns
returns c = region-all _ 0 _ c.loop-k.row _ c.loop-k.k _ c.loop-k.invariant (omega arith) refl
