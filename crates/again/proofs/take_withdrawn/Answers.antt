-- The withdrawal on the unsearched load, and the search again.
use Rattle.again.proofs.CodeLaws.{withdraw-searched, withdraw-unsearched}
use Rattle.again.proofs.take_withdrawn.Goals as goal

pub returns-then-load : goal.returns-then-load
returns-then-load c =
    let a = c.args in
    withdraw-searched a.load.now a.key _ _ _ c.unsearch.ensures c.take_out-answer.ensures c.searched_again.ensures c.if-load.true

pub returns : goal.returns
returns c =
    let a = c.args in
    withdraw-unsearched a.load.now a.key _ c.take_out.ensures c.if-load.false
