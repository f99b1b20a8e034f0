-- `name_key` meets its contract: what is left begins with a code point, or with none, or is empty.
use Rattle.std.proofs.Common.{sym, refl, ap, ◌∙◌, arith}
use Rattle.key.proofs.Stream.{rest, rest_all, rest_none, rest_some, control-front, turn, unread-front}
use Rattle.key.proofs.name_key.Goals as goal

pub loop-bytes-init : goal.loop-bytes-init
loop-bytes-init c = rest_all _

pub returns-in_default : goal.returns-in_default
returns-in_default c =
    sym (c.loop-bytes.invariant ∙ ap (rest _ _ _) (c.in_default.ensures (grind arith)) ∙ unread-front _ _ _)

pub returns-then-control : goal.returns-then-control
returns-then-control c =
    sym (c.loop-bytes.invariant ∙ ap (rest _ _ _) c.in-Some.ensures.begins
    ∙ control-front _ _ _ _ _ c.in-Some.ensures.latin (sym c.control.ensures ∙ c.if-control.true))

pub loop-bytes-preserved : goal.loop-bytes-preserved
loop-bytes-preserved c =
    c.loop-bytes.invariant ∙ ap (rest _ _ _) c.in-Some.ensures.begins
    ∙ turn _ _ _ _ _ c.in-Some.ensures.latin (sym c.control.ensures ∙ c.if-control.false)
    ∙ rw (c.after-reading.ensures.any, c.after-reading.ensures.gap, c.after-reading.ensures.hash) refl

pub returns-then-reading : goal.returns-then-reading
returns-then-reading c = sym (c.loop-bytes.invariant ∙ rest_some _ _ _ c.loop-bytes.bytes.now (grind arith) c.if-reading.true)

pub returns-else-reading : goal.returns-else-reading
returns-else-reading c = sym (c.loop-bytes.invariant ∙ rest_none _ _ _ c.loop-bytes.bytes.now (grind arith) c.if-reading.false)
