-- What `position` finds, in the words of `find_stop`.
use mathlib.Core.Path.{◌∙◌}
use mathlib.Core.Bool.{false}
use Rattle.std.proofs.Common.{rules}
use Rattle.std.proofs.lemmas.Iterator.{YieldsList-from_slice}
use Rattle.std.proofs.lemmas.Iterator.Search.{position_from_yields_List}
use Rattle.stops.specs.Stops.{is_it}
use Rattle.stops.proofs.Texts.{position-finds}
use Rattle.stops.proofs.find.find.Goals as goal

pub returns-clause-value : goal.returns-clause-value
returns-clause-value c =
    let is = is_it false c.args.id.now in
    position_from_yields_List is _ _ c.position.result c.position.ensures.ran
    (YieldsList-from_slice c.args.stops.now c.iter.ensures.rest) (λ x b q k. search rules)
    ∙ position-finds is c.args.stops.now
