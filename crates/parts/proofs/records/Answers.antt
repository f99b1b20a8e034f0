-- Each part is read on behind what the one before it left.
use Rattle.std.proofs.Common.{rules, ◌+◌, arith}
use Rattle.std.proofs.lemmas.List.Edits.{length-between}
use Rattle.parts.proofs.InputLaws.{reads-all, behind-version, fed-within, reads-on, reads-refused, reads-ended, next-part, next-long}
use Rattle.parts.proofs.records.Goals as goal

pub loop-init : goal.loop-init
loop-init g c = record {
  same = search rules;
  at = search rules;
  held = search rules;
  end = c.requires.end;
  reads = reads-all _ _ _ _ (behind-version c.min-at.result c.args.first c.args.buf.now (omega arith));
}

pub returns-then-is_refused : goal.returns-then-is_refused
returns-then-is_refused g c =
    reads-refused _ _ c.take_records-f.ensures c.loop.invariant.reads c.is_refused.ensures c.if-is_refused.true

pub returns-then-held-buf : goal.returns-then-held-buf
returns-then-held-buf g c =
    let part = length-between c.loop.buf c.loop.at c.loop.held c.loop.invariant.held in
    let room = fed-within _ _ c.take_records-f.ensures in
    reads-ended _ _ c.take_records-f.ensures c.loop.invariant.reads c.is_refused.ensures c.if-is_refused.false
    (c.loop.invariant.end c.if-held-buf.true) _ _ c.ended.ensures (omega (arith, part, room))

pub loop-preserved : goal.loop-preserved
loop-preserved g c =
    let part = length-between c.loop.buf c.loop.at c.loop.held c.loop.invariant.held in
    let room = fed-within _ _ c.take_records-f.ensures in
    let down = c.move_down-left.new.buf in
    record {
      same = search rules;
      at = search rules;
      held = search rules;
      end = λ h. c.in_ok-held.ensures.end (next-long down c.full.new.buf c.move_down-left.result _ c.move_down-left.ensures.upper_bound h);
      reads =
          reads-on _ _ c.take_records-f.ensures c.loop.invariant.reads c.is_refused.ensures c.if-is_refused.false _ _ _
          c.in_ok-held.ensures.bytes
          (next-part c.loop.buf c.loop.at c.loop.held (c.loop.at + c.min.result) c.take_records-f.result.used c.move_down-left.result
          c.in_ok-held.field-0 _ down c.full.new.buf c.move_down-left.ensures.moved (omega (arith, part, room))
          c.move_down-left.ensures.upper_bound c.in_ok-held.ensures.within);
    }
