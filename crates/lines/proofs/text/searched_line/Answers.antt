-- The word and the flag.
use mathlib.Core.Path.{◌∙◌}
use Rattle.lines.specs.Rides.{searched_line}
use Rattle.lines.proofs.RideLaws.{flag}
use Rattle.lines.proofs.text.searched_line.Goals as goal

pub returns : goal.returns
unfolding searched_line
returns c = rw (c.from.ensures ∙ flag c.args.searched) at c.line.ensures
