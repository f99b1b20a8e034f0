-- The word and the number.
use Rattle.lines.specs.Lines.{refused_line_of}
use Rattle.lines.proofs.text.refused_line.Goals as goal

pub returns : goal.returns
unfolding refused_line_of
returns c = rw c.from.ensures at c.line.ensures
