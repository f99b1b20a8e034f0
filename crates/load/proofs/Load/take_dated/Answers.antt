-- The gate's answer; then, where it is taken, the call's own.
use mathlib.Core.Path.{sym, ap, ◌∙◌}
use Rattle.week.specs.declared.Running.{Running}
use Rattle.load.specs.Steps.{dated_call}
use Rattle.load.proofs.StepLaws.{gate-refused, gate-outside, plain-refused, plain-answered}
use Rattle.load.proofs.Load.take_dated.Goals as goal

pub returns-then-is_refused : goal.returns-then-is_refused
returns-then-is_refused c =
    gate-refused c.args.self.now _ _ _ c.gate_answer-gate.ensures (sym c.is_refused.ensures ∙ c.if-is_refused.true)
    ∙ ap (λ (r : Running). dated_call c.args.self.now r c.args.input) c.running-told.ensures

pub returns-then-is_refused-2 : goal.returns-then-is_refused-2
returns-then-is_refused-2 c =
    plain-refused c.args.self.now _ _ _ c.gate_answer-gate.ensures (sym c.is_taken.ensures ∙ c.if-is_taken.true)
    _ _ c.take_by_cuts-answer.ensures (sym c.is_refused-then-is_taken.ensures ∙ c.if-is_refused-2.true)
    ∙ ap (λ (r : Running). dated_call c.args.self.now r c.args.input) c.running-told.ensures

pub returns-then-is_taken : goal.returns-then-is_taken
returns-then-is_taken c =
    plain-answered c.args.self.now _ _ _ c.gate_answer-gate.ensures (sym c.is_taken.ensures ∙ c.if-is_taken.true)
    _ _ c.take_by_cuts-answer.ensures (sym c.is_refused-then-is_taken.ensures ∙ c.if-is_refused-2.false) _ c.closed-week.ensures
    ∙ ap (λ (r : Running). dated_call c.args.self.now r c.args.input) c.running-told.ensures

pub returns : goal.returns
returns c =
    gate-outside c.args.self.now _ _ _ c.gate_answer-gate.ensures (sym c.is_refused.ensures ∙ c.if-is_refused.false)
    (sym c.is_taken.ensures ∙ c.if-is_taken.false) _ c.closed-week.ensures
    ∙ ap (λ (r : Running). dated_call c.args.self.now r c.args.input) c.running-told.ensures
