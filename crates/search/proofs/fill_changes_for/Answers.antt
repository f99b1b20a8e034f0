-- The rules, the parents and the places are those of the load, whose stops are at most 128.
use mathlib.Core.Path.{refl, ap, ◌∙◌}
use mathlib.Core.List.{List}
use native.Mathlib.Omega.{arith}
use lib.ListN.{take}
use Rattle.laws.proofs.Prefixes.{few-taken}
use Rattle.stops.specs.declared.Stop.{Stop}
use Rattle.places.specs.Places.{places_of}
use Rattle.search.proofs.OfferedLaws.{changes-are}
use Rattle.search.proofs.fill_changes_for.Goals as goal

pub returns : goal.returns
returns c =
    let l = c.args.load.now in
    let places = c.group_places-places.ensures ∙ ap (λ (s : List Stop). places_of (take 128 s)) c.first.ensures
    ∙ ap places_of (few-taken l.stop_count l.stops 128 (omega arith)) in
    changes-are l c.args.feed.now c.fill_changes.new.changes _ _ _ _ _ c.first-2.ensures c.parents_of-parents.ensures places refl refl
    c.fill_changes.ensures
