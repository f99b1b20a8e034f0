-- What `find` finds, by the services taken.
use mathlib.Core.Path.{ap, ◌∙◌}
use Rattle.std.proofs.Common.{rules}
use Rattle.std.specs.List.{find}
use Rattle.std.proofs.lemmas.Iterator.{YieldsList-from_slice}
use Rattle.std.proofs.lemmas.Iterator.Search.{find_from_yields_List}
use Rattle.week.specs.Weeks.{named}
use Rattle.week.proofs.StepLaws.{found-in}
use Rattle.week.proofs.Week.service_in.Goals as goal

pub returns : goal.returns
returns c =
    let p = named c.args.name.now in
    c.copied.ensures
    ∙ find_from_yields_List p _ _ c.find.result c.find.ensures.ran
    (YieldsList-from_slice c.taken.result.now c.iter.ensures.rest) (λ x b q k. search rules)
    ∙ ap (find p) c.taken.ensures ∙ found-in c.args.self.now c.args.name.now
