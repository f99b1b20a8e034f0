-- Five digits at most.
use Rattle.lines.proofs.DecimalLaws.{short-put}
use Rattle.lines.proofs.text.short.Goals as goal

pub returns : goal.returns
returns c = short-put c.args.n c.ranges.n.fits (rw c.from.ensures at c.number.ensures)
