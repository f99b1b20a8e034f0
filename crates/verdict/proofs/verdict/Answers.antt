-- A load with a finished search speaks, any other says nothing.
use Rattle.verdict.proofs.VerdictLaws.{said-nothing, said-impossible, said-free}
use Rattle.verdict.proofs.verdict.Goals as goal

pub returns-then-not-is_finished : goal.returns-then-not-is_finished
returns-then-not-is_finished c = said-nothing c.args.load.now c.args.connection.now _ c.is_finished.ensures c.if-not-is_finished.true

pub returns-in-Some : goal.returns-in-Some
returns-in-Some c =
    said-impossible c.args.load.now c.args.connection.now _ c.is_finished.ensures c.if-not-is_finished.false
    _ c.first.ensures _ c.way_of-way.ensures
    _ c.cause_of.ensures c.in-Some.cause c.in-Some.is

pub returns-in-None : goal.returns-in-None
returns-in-None c =
    said-free c.args.load.now c.args.connection.now _ c.is_finished.ensures c.if-not-is_finished.false
    _ c.first.ensures _ c.way_of-way.ensures
    _ c.cause_of.ensures _ c.in-None.is c.by_list.ensures
