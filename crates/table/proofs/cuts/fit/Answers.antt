-- Each turn ends in an answer, or cuts the table and tries the same call anew.
use mathlib.Core.Path.{sym, ap, ◌∙◌}
use Rattle.calls.specs.declared.Table.{Table}
use Rattle.calls.specs.Tables.{fitted}
use Rattle.calls.specs.Calls.{ended}
use Rattle.calls.proofs.FitLaws as law
use Rattle.table.proofs.cuts.fit.Goals as goal

pub returns-in_default : goal.returns-in_default
returns-in_default c =
    ap (ended c.args.table) (law.outside _ _ _ _ (sym c.view.ensures ∙ c.in_default.is) ∙ c.loop-call.invariant)

pub returns-then-t-lt-CALLS : goal.returns-then-t-lt-CALLS
returns-then-t-lt-CALLS c =
    ap (ended c.args.table) (law.room _ _ _ _ _ (sym c.view.ensures ∙ c.in-Some.is) c.if-t-lt-CALLS.true ∙ c.loop-call.invariant)

pub returns-then-less-lt-LEAST_HORIZON : goal.returns-then-less-lt-LEAST_HORIZON
returns-then-less-lt-LEAST_HORIZON c =
    ap (ended c.args.table)
    (law.refuses _ _ _ _ _ (sym c.view.ensures ∙ c.in-Some.is) c.if-t-lt-CALLS.false c.if-less-lt-LEAST_HORIZON.true
    ∙ c.loop-call.invariant)

pub loop-call-smaller : goal.loop-call-smaller
loop-call-smaller c = law.cut-shrinks _ _ c.cut_to-t.ensures c.if-less-lt-LEAST_HORIZON.false

pub loop-call-preserved : goal.loop-call-preserved
loop-call-preserved c =
    let i = c.args.timed in
    ap (λ (x : Table). fitted x i.arrival i.departure i.input) c.cut_to-t.ensures
    ∙ law.cuts _ _ _ _ _ (sym c.view.ensures ∙ c.in-Some.is) c.if-t-lt-CALLS.false c.if-less-lt-LEAST_HORIZON.false ∙ c.loop-call.invariant
