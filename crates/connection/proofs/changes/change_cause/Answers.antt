-- The calls, the rule that holds, its number, the change and the tests.
use Rattle.connection.proofs.ChangeLaws.{change-by}
use Rattle.connection.proofs.changes.change_cause.Goals as goal

pub returns : goal.returns
returns c =
    let a = c.args in
    change-by a.i a.transfers.now a.from.now a.to.now a.asked _ _ _ _ _ _ _ _ c.if-not-asked.false
    c.boards.ensures c.alights.ensures c.boards-2.ensures
    c.ends-ends.ensures c.choose-rule.ensures c.rule_number-number.ensures c.change_by-seconds.ensures c.pair_cause.ensures
