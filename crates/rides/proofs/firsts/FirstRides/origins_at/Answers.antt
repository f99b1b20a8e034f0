-- `origins_at` meets its contract.
use Rattle.rides.specs.Firsts.{board_firsts}
use Rattle.rides.proofs.LoopLaws.{digits-none}
use Rattle.rides.proofs.firsts.FirstRides.origins_at.Goals as goal

pub returns-then-b : goal.returns-then-b
unfolding board_firsts
returns-then-b c = rw (← c.at-b.ensures, c.if-b.true, ← c.origins.ensures)

pub returns : goal.returns
unfolding board_firsts
returns c = rw (← c.at-b.ensures, c.if-b.false, digits-none c.of.ensures)
