-- The places of the stops made: of the first, no more than 128.
use mathlib.Core.Path.{ap, ◌∙◌}
use mathlib.Core.List.{List}
use native.Mathlib.Omega.{arith}
use lib.ListN.{take}
use Rattle.laws.proofs.Prefixes.{few-taken}
use Rattle.stops.specs.declared.Stop.{Stop}
use Rattle.places.specs.Places.{places_of}
use Rattle.transfer_c.proofs.changes_places.Goals as goal

pub returns : goal.returns
returns c =
    c.group_places.ensures ∙ rw c.first.ensures (ap places_of (few-taken c.args.count c.stops_with-stops.result 128 (omega arith)))
    ∙ ap (λ (ss : List Stop). places_of (take c.args.count ss)) c.stops_with-stops.ensures
