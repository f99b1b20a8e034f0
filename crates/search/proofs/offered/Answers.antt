-- The arrays hold the timetable, and the loops make every offer; without changes none is read.
use mathlib.Core.Path.{refl}
use Rattle.search.proofs.OfferedLaws.{direct-is, offered-is}
use Rattle.search.proofs.offered.Goals as goal

pub returns-then-settings-eq0 : goal.returns-then-settings-eq0
returns-then-settings-eq0 c =
    let l = c.args.load.now in
    direct-is l c.args.calls.now _ _ c.fill_feed.ensures c.numbers_told.ensures c.if-settings-eq0.true _ _ c.fresh-st.ensures c.endpoint_paths.ensures

pub returns : goal.returns
returns c =
    let l = c.args.load.now in
    offered-is l c.args.calls.now _ _ _ c.fill_feed.ensures
    c.numbers_told.ensures c.fill_changes_for.ensures refl _ _ c.fresh-st.ensures c.endpoint_paths-2.ensures
