-- `first_numbers` meets its contract: by what its calls ensure.
use mir.Facts.{to_z-of_z}
use Rattle.lent_c.proofs.Answers.{first-answered}
use Rattle.lent_c.proofs.first_numbers.Goals as goal

pub returns : goal.returns
returns c =
    first-answered _ _ _ _ c.args.count c.args.horizon
    (to_z-of_z c.ranges.second) c.journeys_of-journeys.ensures c.first.ensures c.first_leaving.ensures c.answer_of.ensures
