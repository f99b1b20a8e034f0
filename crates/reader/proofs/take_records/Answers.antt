-- Each record is taken or sent back.
use mathlib.Core.Path.{sym, subst, ◌∙◌}
use native.Mathlib.Omega.{arith}
use Rattle.file.specs.declared.framed.Records.{Records}
use Rattle.file.specs.Framed.{records_left}
use Rattle.reader.proofs.ReadLaws.{Rest, all-rest, none-next, sent-back, goes-on, rest-room}
use Rattle.reader.proofs.take_records.Goals as goal

pub loop-b-init : goal.loop-b-init
loop-b-init c =
    subst (λ (r : Records). Rest c.args.reader.now c.args.bytes.now c.args.reader.now 0 (records_left r))
    (sym c.into_iter-b-iterator.ensures.into_iter_gives) (all-rest c.args.reader.now c.args.bytes.now)

pub returns-then-is_refused : goal.returns-then-is_refused
returns-then-is_refused c =
    sent-back c.loop-b.invariant c.in-Some.ensures.steps c.take_record-answer.ensures c.is_refused.ensures c.if-is_refused.true

pub overflow_add-used-in-loop-b : goal.overflow_add-used-in-loop-b
overflow_add-used-in-loop-b c =
    omega (
      arith,
      rest-room
          (goes-on c.loop-b.invariant c.in-Some.ensures.steps c.take_record-answer.ensures c.is_refused.ensures c.if-is_refused.false),
    )

pub loop-b-preserved : goal.loop-b-preserved
loop-b-preserved c =
    goes-on c.loop-b.invariant c.in-Some.ensures.steps c.take_record-answer.ensures c.is_refused.ensures c.if-is_refused.false

pub returns : goal.returns
returns c = none-next c.loop-b.invariant c.in-None.ensures.steps.0
