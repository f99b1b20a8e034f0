-- `board_time` meets its contract: the next call of the run and what is put in for it.
use Rattle.rides.proofs.ReachLaws.{board-last, board-next}
use Rattle.rides.proofs.reach.board_time.Goals as goal

pub returns-then-goes_on : goal.returns-then-goes_on
returns-then-goes_on c = board-next _ _ _ _ _ c.goes_on.ensures c.if-goes_on.true c.requires.1 c.min.ensures

pub returns : goal.returns
returns c = board-last _ _ _ _ _ c.goes_on.ensures c.if-goes_on.false
