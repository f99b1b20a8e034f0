-- Each return is a law of `SearchLaws` at the tests on its way.
use mathlib.Core.Path.{ap, ◌∙◌}
use Rattle.load.specs.Steps.{stepped}
use Rattle.refusal.specs.declared.Accepted.TheVariants.{Taken}
use Rattle.std.specs.Prelude.{Ok}
use Rattle.offers.specs.Order.{clashes}
use Rattle.search.proofs.SearchLaws.{returned-again, returned-clash, returned-falling, returned-found}
use Rattle.search.proofs.take_search.Goals as goal

pub returns-then-load : goal.returns-then-load
returns-then-load c = returned-again c.args.load.now c.if-load.true

pub returns-then-neighbours_clash : goal.returns-then-neighbours_clash
returns-then-neighbours_clash c =
    returned-clash c.args.load.now _ c.sorted-calls.ensures c.sorted-calls.type_inv.1.0.1 c.if-load.false _
    (c.neighbours_clash.ensures ∙ ap clashes c.first.ensures) c.if-neighbours_clash.true

pub returns-then-is_refused : goal.returns-then-is_refused
returns-then-is_refused c =
    returned-falling c.args.load.now _ c.sorted-calls.ensures c.sorted-calls.type_inv.1.0.1 c.if-load.false _
    (c.neighbours_clash.ensures ∙ ap clashes c.first.ensures) c.if-neighbours_clash.false
    _ _ c.offered-st.ensures c.is_refused.ensures c.if-is_refused.true

pub returns : goal.returns
returns c =
    ap (stepped (Ok Taken)) c.keep.ensures
    ∙ returned-found c.args.load.now _ c.sorted-calls.ensures c.sorted-calls.type_inv.1.0.1 c.if-load.false _
    (c.neighbours_clash.ensures ∙ ap clashes c.first.ensures) c.if-neighbours_clash.false
    c.bytes_told.ensures _ c.offered-st.ensures _ c.is_refused.ensures c.if-is_refused.false
