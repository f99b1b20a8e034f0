-- Above 3 or unsearched, or else of another start.
use Rattle.std.proofs.Common.{rules}
use mathlib.Core.Path.{◌≡◌, sym, ◌∙◌}
use mathlib.Core.Bool.{not, ◌||◌}
use borrow.Author.Tests.{lt-ltb, le-ltb}
use lib.Dec.{ltb}
use mir.Syntax.{w64}
use Rattle.laws.proofs.Bools.{or-by, or-not}
use Rattle.laws.proofs.Ints.{again}
use Rattle.groups.proofs.RefusedLaws.{unlike-bits, wrong-first, wrong-last}
use Rattle.groups.proofs.is_wrong.Goals as goal
use Rattle.groups.proofs.is_wrong.Goals.{then-above, else-above}

pub returns-then-not-group : goal.returns-then-not-group
returns-then-not-group c =
    let g = c.args.group.now in
    let is : c.if-above.value ≡ (ltb 3 g.number || not g.searched) = elim c.if-above.branch [
      | then-above w ↦ w.value-is ∙ lt-ltb 3 g.number w.if-above.true ∙ sym (or-by _ (lt-ltb 3 g.number w.if-above.true))
      | else-above w ↦ w.value-is ∙ sym (or-not _ (le-ltb 3 g.number w.if-above.false))
    ] in
    wrong-first c.args.low g is c.if-not-group.true

pub returns-else-not-group : goal.returns-else-not-group
returns-else-not-group c =
    let g = c.args.group.now in
    let is : c.if-above.value ≡ (ltb 3 g.number || not g.searched) = elim c.if-above.branch [
      | then-above w ↦ w.value-is ∙ lt-ltb 3 g.number w.if-above.true ∙ sym (or-by _ (lt-ltb 3 g.number w.if-above.true))
      | else-above w ↦ w.value-is ∙ sym (or-not _ (le-ltb 3 g.number w.if-above.false))
    ] in
    wrong-last c.args.low g is c.if-not-group.false (unlike-bits g.now c.args.low (again {w = w64} (search rules)) (again c.ranges.low))
