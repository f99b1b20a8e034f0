-- The lines stand at the start of the buffer.
use native.Mathlib.Omega.{arith}
use Rattle.lines.proofs.LineLaws.{plain_lines}
use Rattle.lines.proofs.lines_of.Goals as goal

pub returns : goal.returns
returns c =
    let p = plain_lines c.args.answer c.args.load.now c.new-text.ensures.empty
    (rw c.new-text.ensures.bytes (omega arith)) c.answer_lines.ensures in
    record { out_after = p.0; counts = p.1 }
