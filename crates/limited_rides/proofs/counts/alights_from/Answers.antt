-- `alights_from` meets its contract.
use Rattle.limited_rides.proofs.MadeLaws.{alights-end, alights-one}
use Rattle.limited_rides.proofs.counts.alights_from.Goals as goal

pub returns-then-not-goes_on : goal.returns-then-not-goes_on
returns-then-not-goes_on c = alights-end _ _ _ c.goes_on.ensures c.if-not-goes_on.true

pub returns-then-at : goal.returns-then-at
returns-then-at c =
    let one = alights-one _ _ _ c.goes_on.ensures c.if-not-goes_on.false c.at.ensures c.requires.2 in
    rw c.if-at.true at one

pub returns-else-at : goal.returns-else-at
returns-else-at c =
    let one = alights-one _ _ _ c.goes_on.ensures c.if-not-goes_on.false c.at.ensures c.requires.2 in
    rw c.if-at.false at one
