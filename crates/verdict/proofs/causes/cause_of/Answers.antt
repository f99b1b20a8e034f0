-- The parts in order.
use lib.ListN.{take}
use Rattle.verdict.proofs.CauseLaws.{ends-chain, cause-chain}
use Rattle.verdict.proofs.causes.cause_of.Goals as goal

pub returns : goal.returns
returns c =
    let l = c.args.load.now in
    let ends = ends-chain l.settings l.stops c.args.connection.now c.args.way.now _ _ _ _
    c.boards-start.ensures c.last_leg.ensures c.alights-end.ensures c.ends_cause.ensures in
    cause-chain l.settings l.stops c.args.connection.now c.args.way.now l.stop_count (take l.rule_count l.rules) _ _ _ _ _ _ _ _ _
    c.rides_cause.ensures c.legs_cause.ensures c.or.ensures ends c.or-2.ensures c.count_cause.ensures c.or-3.ensures
    c.changes_cause.ensures c.or-4.ensures
