-- The chain counts those that are due.
use Rattle.std.proofs.Common.{rules, tests}
use Rattle.std.proofs.lemmas.Iterator.{YieldsList-from_slice}
use Rattle.std.proofs.lemmas.Iterator.Consumers.{YieldsList-from_filter, count_from_yields_List}
use mathlib.Core.Path.{ap, ◌∙◌}
use lib.ListN.{length}
use Rattle.display.specs.Parts.{is_due}
use Rattle.display.proofs.PartLaws.{due-same}
use Rattle.display.proofs.part.due_by.Goals as goal

pub returns : goal.returns
returns c =
    let ks = c.args.list.now in
    let w = c.args.window in
    count_from_yields_List c.filter.result c.count.result c.count.ensures.ran
    (YieldsList-from_filter _ (is_due w) (YieldsList-from_slice ks cc) c.filter.ensures.closure (λ x r q k. search (rules, tests)))
    ∙ ap length (due-same w ks)
