-- The chain reads the list up to the first.
use mathlib.Core.Path.{◌∙◌}
use Rattle.std.proofs.Common.{rules, tests, leb}
use Rattle.std.proofs.lemmas.Iterator.{YieldsList-from_slice}
use Rattle.std.proofs.lemmas.Iterator.Search.{find_from_yields_List}
use Rattle.profile.specs.declared.Journey.{Journey}
use Rattle.best.proofs.first_from.Goals as goal

pub returns : goal.returns
returns c =
    c.copied.ensures
    ∙ find_from_yields_List (λ (j : Journey). leb c.args.t j.leave) _ _ c.find.result c.find.ensures.ran
    (YieldsList-from_slice c.args.journeys.now cc) (λ x b q k. search (rules, tests))
