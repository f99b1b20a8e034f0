-- Each place is filled with its entry.
use mathlib.Core.Path.{refl, ap, ◌∙◌}
use native.Mathlib.Omega.{arith}
use Rattle.laws.proofs.Regions.{region-none, region-all}
use Rattle.transfer.specs.declared.Ends.{Ends}
use Rattle.transfer.specs.Choice.{chosen}
use Rattle.transfer.specs.Changes.{ends_of_of, change_of, transfer_of, change_number}
use Rattle.transfer.specs.Lent.{near_in}
use Rattle.transfer.specs.Rows.{entry_of}
use Rattle.transfer_row.proofs.Filling.{row-more}
use Rattle.transfer_row.proofs.by_both.Goals as goal

pub loop-k-init : goal.loop-k-init
loop-k-init c = region-none _ 0 _

pub rule_of-rule-requires : goal.rule_of-rule-requires
unfolding ends_of_of
rule_of-rule-requires c = rw c.ends-ends.ensures (c.requires, omega arith)

pub loop-k-preserved : goal.loop-k-preserved
unfolding ends_of_of transfer_of entry_of
loop-k-preserved c =
    let t = c.args.transfers.now in
    let ends = c.ends-ends.ensures in
    let rule = c.rule_of-rule.ensures ∙ ap (λ (e : Ends). chosen e t.rules.now) ends in
    row-more _ _ c.loop-k.row c.loop-k.k _ c.loop-k.invariant (omega arith)
    (c.change_number.ensures.value
    ∙ ap change_number (c.change_by.ensures ∙ (λ i. change_of (rule i) (near_in t (ends i)) t.change)))

pub returns : goal.returns
returns c = region-all _ 0 _ c.loop-k.row _ c.loop-k.k _ c.loop-k.invariant (omega arith) refl
