-- Taken, outside with nothing cut, or cut.
use mathlib.Core.Path.{sym, ◌∙◌}
use Rattle.load.specs.Steps.{stepped}
use Rattle.again.proofs.CodeLaws.{added-taken, added-stays, added-cut}
use Rattle.again.proofs.added.Goals as goal

pub returns-then-is_taken : goal.returns-then-is_taken
returns-then-is_taken c =
    let a = c.args in
    added-taken a.before.now (stepped a.answer a.load.now) _ c.searched_again.ensures (sym c.is_taken.ensures ∙ c.if-is_taken.true)

pub returns-then-load-before : goal.returns-then-load-before
returns-then-load-before c =
    let a = c.args in
    added-stays a.before.now (stepped a.answer a.load.now) (sym c.is_taken.ensures ∙ c.if-is_taken.false) c.if-load-before.true

pub returns : goal.returns
returns c =
    let a = c.args in
    added-cut a.before.now (stepped a.answer a.load.now) _ c.searched_again-2.ensures (sym c.is_taken.ensures ∙ c.if-is_taken.false) c.if-load-before.false
