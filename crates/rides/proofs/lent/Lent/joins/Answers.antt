-- `joins` meets its contract.
use Rattle.rides.specs.Sheets.{joins_of}
use Rattle.rides.proofs.lent.Lent.joins.Goals as goal

pub returns : goal.returns
unfolding joins_of
returns c = rw (← c.at-b.ensures, ← c.change_at.ensures) c.join.ensures
