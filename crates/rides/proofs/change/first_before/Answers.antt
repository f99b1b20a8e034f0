-- `first_before` meets its contract: what is offered leaves as f does, so that what was known of the other number of rides stays.
use Rattle.rides.proofs.OverLaws.{over-kept, over-min, over-more, directs-alike, changes-alike}
use Rattle.rides.proofs.RestLaws.{both}
use Rattle.rides.proofs.change.first_before.Goals as goal

pub change_rides-requires : goal.change_rides-requires
change_rides-requires c =
    let p = c.requires in
    let w = c.directs_before-one.ensures in
    (p.0, p.1, over-min c.min-two.ensures (over-kept _ (directs-alike _ _) w.offered p.2.two) (over-more w.over))

pub returns-clause-rows : goal.returns-clause-rows
returns-clause-rows c = both c.directs_before-one.ensures.offered c.change_rides.ensures.rows.offered

pub returns-clause-since : goal.returns-clause-since
returns-clause-since c =
    let w = c.change_rides.ensures in
    record { one = rw w.one (over-kept _ (changes-alike _ _ _ _ _) w.rows.offered c.directs_before-one.ensures.over); two = w.rows.over }
