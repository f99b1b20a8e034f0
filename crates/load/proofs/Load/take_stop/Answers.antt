-- One stop more, or the load as it was.
use native.Mathlib.Omega.{arith}
use Rattle.load.proofs.Held.{stop-fits, stop-stored, stop-left}
use Rattle.load.proofs.Load.take_stop.Goals as goal

pub offset_bounds-self-at : goal.offset_bounds-self-at
offset_bounds-self-at c =
    omega (
      arith,
      stop-fits c.args.self.now _ _ _ _ (omega arith) c.first-stops.ensures c.parent_of-station.ensures c.stop_answer-answer.ensures
          c.is_taken.ensures c.if-is_taken.true,
    )

pub bounds-self-at : goal.bounds-self-at
bounds-self-at c =
    stop-fits c.args.self.now _ _ _ _ (omega arith) c.first-stops.ensures c.parent_of-station.ensures c.stop_answer-answer.ensures
    c.is_taken.ensures c.if-is_taken.true

pub overflow_add-self : goal.overflow_add-self
overflow_add-self c =
    omega (
      arith,
      stop-fits c.args.self.now _ _ _ _ (omega arith) c.first-stops.ensures c.parent_of-station.ensures c.stop_answer-answer.ensures
          c.is_taken.ensures c.if-is_taken.true,
    )

pub returns-then-is_taken : goal.returns-then-is_taken
returns-then-is_taken c =
    stop-stored c.args.self.now _ _ _ _ (omega arith) c.first-stops.ensures c.parent_of-station.ensures c.stop_answer-answer.ensures
    c.is_taken.ensures c.stop_of.ensures c.if-is_taken.true

pub returns-else-is_taken : goal.returns-else-is_taken
returns-else-is_taken c =
    stop-left c.args.self.now _ _ _ _ (omega arith) c.first-stops.ensures c.parent_of-station.ensures c.stop_answer-answer.ensures
    c.is_taken.ensures c.if-is_taken.false
