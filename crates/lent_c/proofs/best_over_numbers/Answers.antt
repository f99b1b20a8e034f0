-- `best_over_numbers` meets its contract: by what its calls ensure.
use mir.Facts.{to_z-of_z}
use Rattle.lent_c.proofs.Answers.{answered}
use Rattle.lent_c.proofs.best_over_numbers.Goals as goal

pub returns : goal.returns
returns c =
    answered _ _ _ _ c.args.count c.args.horizon
    (to_z-of_z c.ranges.second) c.journeys_of-journeys.ensures c.first.ensures c.best_over.ensures c.answer_of.ensures
