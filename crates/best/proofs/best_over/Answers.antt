-- None where the second is not asked, and the fold where it is.
use Rattle.std.specs.Prelude.{None}
use Rattle.std.proofs.Common.{rules, tests}
use Rattle.std.proofs.lemmas.Iterator.{YieldsList-from_slice}
use Rattle.std.proofs.lemmas.Iterator.Consumers.{fold_from_yields_List}
use mathlib.Core.Path.{◌∙◌}
use Rattle.best.specs.Turn.{better_of}
use Rattle.best.proofs.TurnLaws.{asked-then, turns-best, as_is}
use Rattle.best.proofs.best_over.Goals as goal

pub returns-in_err-t : goal.returns-in_err-t
returns-in_err-t c =
    let s = c.args.second in
    c.from_residual.ensures ∙ asked-then _ _ c.in_err-t.was c.asked.ensures (as_is s c.ranges.second) ∙ turns-best _ s c.args.journeys.now

pub returns : goal.returns
returns c =
    let js = c.args.journeys.now in
    let s = c.args.second in
    fold_from_yields_List _ (better_of c.in_ok-t.t) None c.fold.result c.fold.ensures.ran
    (YieldsList-from_slice js cc) (λ b x r q k. search (rules, tests))
    ∙ asked-then _ _ c.in_ok-t.was c.asked.ensures (as_is s c.ranges.second)
    ∙ turns-best _ s js
