-- `with_hours` meets its contract: each turn takes one digit, or finds another byte or too many hours.
use mathlib.Core.Path.{sym, ◌∙◌}
use native.Mathlib.Omega.{arith}
use Rattle.time.proofs.Laws.{too_many, digit-turn, other-turn, hours_end, checked_sum}
use Rattle.time.proofs.with_hours.Goals as goal

pub returns-then-not-digit : goal.returns-then-not-digit
returns-then-not-digit c =
    sym (c.loop-b.invariant.1 ∙ sym (other-turn _ _ _ _ c.loop-b-test.true (sym c.digit.ensures.value ∙ c.if-not-digit.true)))

pub returns-then-v-gt1193046 : goal.returns-then-v-gt1193046
returns-then-v-gt1193046 c =
    too_many _ _ _ (omega arith)
    ∙ sym (c.loop-b.invariant.1 ∙ digit-turn _ _ _ _ _ c.loop-b-test.true (sym c.digit.ensures.value ∙ c.if-not-digit.false) c.from.ensures)

pub loop-b-preserved : goal.loop-b-preserved
loop-b-preserved c = (
  omega arith,
  c.loop-b.invariant.1
      ∙ digit-turn _ _ _ _ _ c.loop-b-test.true (sym c.digit.ensures.value ∙ c.if-not-digit.false) c.from.ensures,
)

pub returns : goal.returns
returns c =
    c.ok_or.ensures.value ∙ checked_sum _ _ c.checked_add.ensures ∙ sym (c.loop-b.invariant.1 ∙ hours_end _ _ _ _ c.loop-b-test.false)
