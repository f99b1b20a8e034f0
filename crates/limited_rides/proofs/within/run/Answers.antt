-- At any depth but 1 no join is tested, so the direct journeys are all.
use Rattle.limited_rides.proofs.WithinLaws.{apart-rows}
use Rattle.limited_rides.proofs.within.run.Goals as goal

pub returns-then-depth-ne1 : goal.returns-then-depth-ne1
returns-then-depth-ne1 c = rw (apart-rows _ _ _ c.if-depth-ne1.true) c.direct_paths.ensures
