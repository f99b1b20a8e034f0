-- Change by change.
use mathlib.Core.Path.{◌≡◌, ap, ◌∙◌}
use mathlib.Core.List.{List}
use lib.ListN.{length, take}
use Rattle.std.proofs.Common.{rules}
use Rattle.laws.proofs.Prefixes.{few-taken}
use Rattle.stops.specs.declared.Stop.{Stop}
use Rattle.places.specs.Places.{places_of}
use Rattle.verdict.proofs.CauseLaws.{changes-chain}
use Rattle.verdict.proofs.causes.changes_cause.Goals as goal

pub returns : goal.returns
returns c =
    let l = c.args.load.now in
    let long : length c.args.load.now.stops ≡ 128 = search rules in
    let places = c.group_places-places.ensures ∙ ap (λ (ss : List Stop). places_of (take 128 ss)) c.first.ensures
    ∙ ap places_of (few-taken l.stop_count l.stops 128 long) in
    changes-chain l.stops l.stop_count (take l.rule_count l.rules) l.settings.transfer_seconds c.args.n c.args.way.now
    _ _ _ _ _ _ c.first-2.ensures c.parents_of-parents.ensures places
    c.change_cause-earlier.ensures c.change_cause-later.ensures c.or.ensures
