-- `first_ride` meets its contract.
use Rattle.rides.specs.Rows.{first_of}
use Rattle.rides.specs.Sheets.{sheet_of}
use Rattle.rides.proofs.call_list.Calls.first_ride.Goals as goal

pub returns : goal.returns
unfolding first_of sheet_of
returns c =
    rw (← c.at-b.ensures, ← c.at-a.ensures, ← c.origin_walk-walk.ensures, ← c.leave_of.ensures)
