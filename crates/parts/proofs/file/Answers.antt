-- The version of the first part is that of the file; its records are read on.
use Rattle.std.proofs.Common.{arith, length-take-le}
use Rattle.parts.proofs.InputLaws.{if-answered, version-refused, version-taken}
use Rattle.parts.proofs.file.Goals as goal

pub returns-then-is_refused : goal.returns-then-is_refused
returns-then-is_refused g c =
    let long = length-take-le _ c.full.new.buf c.in_ok-held.ensures.within in
    version-refused _ _ _ _ c.in_ok-held.ensures.bytes (λ e. c.in_ok-held.ensures.end (omega (arith, e, long))) c.version-answer.ensures
    c.is_refused.ensures c.if-is_refused.true

pub returns : goal.returns
returns g c =
    let long = length-take-le _ c.full.new.buf c.in_ok-held.ensures.within in
    if-answered c.records.result
    (λ b on. version-taken _ _ _ _ b _ c.in_ok-held.ensures.bytes (λ e. c.in_ok-held.ensures.end (omega (arith, e, long)))
    c.version-answer.ensures c.is_refused.ensures c.if-is_refused.false c.is_second-reader.ensures on) c.records.ensures
