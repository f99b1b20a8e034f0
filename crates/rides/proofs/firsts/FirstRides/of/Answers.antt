-- `of` meets its contract.
use Rattle.rides.proofs.FirstLaws.{firsts-start}
use Rattle.rides.proofs.LoopLaws.{digits-none}
use Rattle.rides.proofs.firsts.FirstRides.of.Goals as goal

pub returns : goal.returns
returns c joins = firsts-start _ joins _ c.none.ensures (digits-none c.of.ensures)
