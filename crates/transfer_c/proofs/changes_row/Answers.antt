-- A row of 128 is filled whole, by the rules as they are lent.
use mathlib.Core.Path.{◌≡◌, ap, ◌∙◌}
use mathlib.Core.List.{List}
use native.Mathlib.Omega.{arith}
use lib.ListN.{take}
use Rattle.rules.specs.declared.Rule.{Rule}
use Rattle.transfer.specs.Rows.{change_row}
use Rattle.transfer_row.proofs.Filling.{row-whole}
use Rattle.transfer_c.specs.Flat.{rules_of}
use Rattle.transfer_c.proofs.changes_row.Goals as goal

pub returns : goal.returns
unfolding change_row
returns c =
    let a = c.args in
    let lent : c.first.result.now ≡ take a.count (rules_of a.rules.now) = c.first.ensures ∙ c.rules_of-rules.ensures in
    row-whole _ _ _ (omega arith) c.change_row.ensures
    ∙ ap (λ (l : List Rule). change_row l a.parents.now a.places.now a.from a.change) lent
