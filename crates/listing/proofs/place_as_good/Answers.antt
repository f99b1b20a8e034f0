-- What `position` finds.
use mathlib.Core.Path.{◌∙◌}
use mathlib.Core.Bool.{Bool}
use Rattle.std.proofs.Common.{rules}
use Rattle.std.proofs.lemmas.Iterator.{YieldsList-from_slice}
use Rattle.std.proofs.lemmas.Iterator.Search.{position_from_yields_List}
use Rattle.laws.proofs.Chains.{position-found}
use Rattle.profile.specs.declared.Journey.{Journey}
use Rattle.listing.specs.Same.{same_figures, same_journey, same_ride}
use Rattle.listing.proofs.place_as_good.Goals as goal

pub returns : goal.returns
unfolding same_journey same_figures same_ride
returns c =
    let p : Journey → Bool = λ k. same_figures k c.args.j in
    position_from_yields_List p _ _ c.position.result c.position.ensures.ran
    (YieldsList-from_slice c.args.journeys.now c.iter.ensures.rest) (λ x b q k. search rules)
    ∙ position-found p c.args.journeys.now
