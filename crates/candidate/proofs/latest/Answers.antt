-- `latest` meets its contract.
use Rattle.candidate.proofs.StepLaws.{latest-turn, latest-done}
use Rattle.candidate.proofs.latest.Goals as goal

pub loop-i-preserved : goal.loop-i-preserved
loop-i-preserved c = latest-turn _ _ _ _ _ c.loop-i-test.true c.row_at.ensures c.max-m.ensures c.loop-i.invariant

pub returns : goal.returns
returns c = latest-done _ _ _ c.loop-i-test.false c.loop-i.invariant
