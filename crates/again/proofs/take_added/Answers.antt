-- The call on the unsearched load, and the search again.
use Rattle.again.proofs.CodeLaws.{add-searched, add-unsearched}
use Rattle.again.proofs.take_added.Goals as goal

pub returns-then-load : goal.returns-then-load
returns-then-load c =
    let a = c.args in
    add-searched a.load.now _ a.input _ _ _ c.unsearch.ensures c.take_call_of-answer.ensures c.added.ensures c.if-load.true

pub returns : goal.returns
returns c =
    let a = c.args in
    add-unsearched a.load.now _ a.input _ c.take_call_of.ensures c.if-load.false
