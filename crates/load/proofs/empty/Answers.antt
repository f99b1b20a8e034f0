-- Every slot blank.
use Rattle.load.proofs.StepLaws.{empty-made}
use Rattle.load.proofs.empty.Goals as goal

pub returns : goal.returns
returns c = empty-made _ _ _ _ _ _ c.blank_stop.ensures c.blank_call.ensures c.blank_rule.ensures c.no_journey.ensures
