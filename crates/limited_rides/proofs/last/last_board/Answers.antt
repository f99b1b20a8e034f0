-- `last_board` meets its contract: the run's later calls, if one can board.
use Rattle.rides.specs.Sheets.{sheet_of}
use Rattle.rides.proofs.RestLaws.{nothing}
use Rattle.limited_rides.specs.RowEvents.{board_events}
use Rattle.limited_rides.proofs.last.last_board.Goals as goal

pub returns-then-at : goal.returns-then-at
unfolding board_events sheet_of
returns-then-at c = rw (← c.at.ensures, c.if-at.true) c.last_alightings.ensures

pub returns-else-at : goal.returns-else-at
unfolding board_events sheet_of
returns-else-at c = rw (← c.at.ensures, c.if-at.false) nothing
