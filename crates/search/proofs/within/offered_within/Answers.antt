-- The arrays hold the timetable, and the loops come to its events; without changes none is read.
use mathlib.Core.Path.{refl}
use Rattle.search.proofs.OfferedLaws.{direct-within, within-is}
use Rattle.search.proofs.within.offered_within.Goals as goal

pub returns-then-settings-eq0 : goal.returns-then-settings-eq0
returns-then-settings-eq0 c =
    let l = c.args.load.now in
    direct-within l c.args.calls.now _ _ c.fill_feed.ensures c.numbers_told.ensures c.if-settings-eq0.true c.paths_within.ensures

pub returns : goal.returns
returns c =
    let l = c.args.load.now in
    within-is l c.args.calls.now _ _ _ c.fill_feed.ensures c.numbers_told.ensures c.fill_changes_for.ensures refl c.paths_within-2.ensures
