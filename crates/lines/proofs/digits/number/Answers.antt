-- The space, then the digits.
use Rattle.lines.proofs.DecimalLaws.{space-put}
use Rattle.lines.proofs.digits.number.Goals as goal

pub returns : goal.returns
returns c = space-put c.args.n c.byte.ensures c.decimal.ensures
