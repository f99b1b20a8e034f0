-- One service more, or the week as it was.
use native.Mathlib.Omega.{arith}
use Rattle.week.proofs.Held.{service-fits, service-stored, service-left}
use Rattle.week.proofs.Week.take_service.Goals as goal

pub offset_bounds-self-at : goal.offset_bounds-self-at
offset_bounds-self-at c =
    let a = c.args in
    omega (
      arith,
      service-fits a.self.now _ _ a.input.weekdays _ _ (omega arith) c.taken.ensures c.service_answer-answer.ensures c.is_taken.ensures
          c.if-is_taken.true,
    )

pub bounds-self-at : goal.bounds-self-at
bounds-self-at c =
    let a = c.args in
    service-fits a.self.now _ _ a.input.weekdays _ _ (omega arith) c.taken.ensures c.service_answer-answer.ensures c.is_taken.ensures
    c.if-is_taken.true

pub overflow_add-self : goal.overflow_add-self
overflow_add-self c =
    let a = c.args in
    omega (
      arith,
      service-fits a.self.now _ _ a.input.weekdays _ _ (omega arith) c.taken.ensures c.service_answer-answer.ensures c.is_taken.ensures
          c.if-is_taken.true,
    )

pub returns-then-is_taken : goal.returns-then-is_taken
returns-then-is_taken c =
    service-stored c.args.self.now _ _ _ _ _ (omega arith) c.taken.ensures c.service_answer-answer.ensures c.is_taken.ensures
    c.service_of.ensures c.if-is_taken.true

pub returns-else-is_taken : goal.returns-else-is_taken
returns-else-is_taken c =
    service-left c.args.self.now _ _ c.args.input.weekdays _ _ (omega arith) c.taken.ensures c.service_answer-answer.ensures
    c.is_taken.ensures c.if-is_taken.false
