-- One rule more, or the load as it was.
use native.Mathlib.Omega.{arith}
use Rattle.load.proofs.Held.{rule-fits, rule-stored, rule-left}
use Rattle.load.proofs.Load.take_rule.Goals as goal

pub offset_bounds-self-at : goal.offset_bounds-self-at
offset_bounds-self-at c =
    let a = c.args in
    omega (
      arith,
      rule-fits a.self.now a.rule (omega arith) c.first-rules.ensures c.rule_answer-answer.ensures
          c.is_taken.ensures c.if-is_taken.true,
    )

pub bounds-self-at : goal.bounds-self-at
bounds-self-at c =
    let a = c.args in
    rule-fits a.self.now a.rule (omega arith) c.first-rules.ensures c.rule_answer-answer.ensures c.is_taken.ensures c.if-is_taken.true

pub overflow_add-self : goal.overflow_add-self
overflow_add-self c =
    let a = c.args in
    omega (
      arith,
      rule-fits a.self.now a.rule (omega arith) c.first-rules.ensures c.rule_answer-answer.ensures
          c.is_taken.ensures c.if-is_taken.true,
    )

pub returns-then-is_taken : goal.returns-then-is_taken
returns-then-is_taken c =
    let a = c.args in
    rule-stored a.self.now a.rule (omega arith) c.first-rules.ensures c.rule_answer-answer.ensures c.is_taken.ensures c.if-is_taken.true

pub returns-else-is_taken : goal.returns-else-is_taken
returns-else-is_taken c =
    let a = c.args in
    rule-left a.self.now a.rule (omega arith) c.first-rules.ensures c.rule_answer-answer.ensures c.is_taken.ensures c.if-is_taken.false
