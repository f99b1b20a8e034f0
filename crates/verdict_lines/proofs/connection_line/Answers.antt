-- The line of the verdict on the connection read.
use Rattle.verdict_lines.specs.Lines.{connection_line}
use Rattle.verdict_lines.proofs.connection_line.Goals as goal

pub returns : goal.returns
unfolding connection_line
returns c = rw (c.verdict.ensures, c.connection_of.ensures) at c.verdict_line.ensures
