-- Refused, found, or refused by the search.
use mathlib.Core.Path.{sym, ◌∙◌}
use Rattle.load.specs.Steps.{stepped}
use Rattle.again.proofs.CodeLaws.{again-refused, again-found, again-turned}
use Rattle.again.proofs.searched_again.Goals as goal

pub returns-then-is_refused : goal.returns-then-is_refused
returns-then-is_refused c =
    let a = c.args in
    again-refused a.before.now (stepped a.answer a.load.now) (sym c.is_refused.ensures ∙ c.if-is_refused.true)

pub returns-then-is_taken : goal.returns-then-is_taken
returns-then-is_taken c =
    let a = c.args in
    again-found a.before.now (stepped a.answer a.load.now) _ c.search_as-second.ensures (sym c.is_refused.ensures ∙ c.if-is_refused.false)
    (sym c.is_taken.ensures ∙ c.if-is_taken.true)

pub returns : goal.returns
returns c =
    let a = c.args in
    again-turned a.before.now (stepped a.answer a.load.now) _ c.search_as-second.ensures (sym c.is_refused.ensures ∙ c.if-is_refused.false)
    (sym c.is_taken.ensures ∙ c.if-is_taken.false)
