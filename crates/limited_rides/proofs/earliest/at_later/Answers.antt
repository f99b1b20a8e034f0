-- `at_later` meets its contract: the next call of the run, and what is known for it.
use Rattle.limited_rides.proofs.DueLaws.{later-end, later-one}
use Rattle.limited_rides.proofs.earliest.at_later.Goals as goal

pub returns-then-goes_on : goal.returns-then-goes_on
returns-then-goes_on c = later-one _ _ _ c.goes_on.ensures c.if-goes_on.true c.at_alighting.ensures c.requires.1 c.sooner.ensures

pub returns : goal.returns
returns c = later-end _ _ _ c.goes_on.ensures c.if-goes_on.false
