-- `asked_for` meets its contract.
use Rattle.rides.proofs.OverLaws.{over-asked, over-seen, over-from}
use Rattle.rides.proofs.since.asked_for.Goals as goal

pub returns-then-passes_over-clause-over : goal.returns-then-passes_over-clause-over
returns-then-passes_over-clause-over c =
    let e = c.passes_over.ensures in
    over-seen e.0 (over-asked c.figures.ensures e.1 c.if-passes_over.true)

pub returns-clause-over : goal.returns-clause-over
returns-clause-over c = over-from c.threshold-from.ensures
