-- Each return is a law of `LimitedLaws` at the tests on its way.
use native.Mathlib.Omega.{arith}
use mathlib.Core.Path.{ap, ◌∙◌}
use Rattle.load.specs.declared.Load.{Load}
use Rattle.refusal.specs.declared.Accepted.TheVariants.{Taken}
use Rattle.std.specs.Prelude.{Ok}
use Rattle.offers.specs.Order.{clashes}
use Rattle.search.specs.Within.{Answered}
use Rattle.search.proofs.LimitedLaws.{within-again, within-settings, within-clash, within-falling, within-found}
use Rattle.search.proofs.within.take_search_within.Goals as goal

pub returns-then-load : goal.returns-then-load
returns-then-load c = within-again c.args.load.now c.args.limit c.if-load.true

pub returns-then-settings-gt1 : goal.returns-then-settings-gt1
returns-then-settings-gt1 c =
    within-settings c.args.load.now c.args.limit c.if-load.false c.if-settings-gt1.true

pub returns-then-neighbours_clash : goal.returns-then-neighbours_clash
returns-then-neighbours_clash c =
    within-clash c.args.load.now c.args.limit c.if-load.false (omega (arith, c.if-settings-gt1.false)) _ c.sorted-calls.ensures c.sorted-calls.type_inv.1.0.1
    _ (c.neighbours_clash.ensures ∙ ap clashes c.first.ensures) c.if-neighbours_clash.true

pub returns-then-is_refused : goal.returns-then-is_refused
returns-then-is_refused c =
    within-falling c.args.load.now c.args.limit c.if-load.false (omega (arith, c.if-settings-gt1.false)) _ c.sorted-calls.ensures c.sorted-calls.type_inv.1.0.1
    _ (c.neighbours_clash.ensures ∙ ap clashes c.first.ensures) c.if-neighbours_clash.false
    c.fresh-st.ensures c.offered_within-tested.ensures _ c.is_refused.ensures c.if-is_refused.true

pub returns : goal.returns
returns c =
    let t = c.offered_within-tested.result in
    ap {B = Answered} (λ (l : Load). record { answer = Ok Taken; load = l; joins = t.joins; finished = t.finished }) c.keep.ensures
    ∙ within-found c.args.load.now c.args.limit c.if-load.false (omega (arith, c.if-settings-gt1.false)) _ c.sorted-calls.ensures c.sorted-calls.type_inv.1.0.1
    _ (c.neighbours_clash.ensures ∙ ap clashes c.first.ensures) c.if-neighbours_clash.false
    c.fresh-st.ensures c.offered_within-tested.ensures
    c.bytes_told.ensures _ c.then_some.ensures _ c.is_refused.ensures c.if-is_refused.false
