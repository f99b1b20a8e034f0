-- `last_at` meets its contract.
use Rattle.std.proofs.Common.{ap}
use Rattle.profile.specs.Journeys.{row_of}
use Rattle.profile.specs.Found.{Row}
use Rattle.rides.specs.Rows.{change_row, offer_of}
use Rattle.rides.specs.Loops.{last_at}
use Rattle.rides.specs.Sheets.{sheet_of}
use Rattle.rides.proofs.LoopLaws.{single_as}
use Rattle.rides.proofs.last.last_at.Goals as goal

pub returns : goal.returns
unfolding last_at change_row sheet_of offer_of row_of
returns c =
    rw (← c.at.ensures)
    (single_as
    (ap (λ (o : Row). row_of o.leave o.arrival o.rides o.walk o.origin o.target o.board o.alight
    c.args.r.board c.args.r.alight o.middle_board o.middle_alight)
    c.offer-first.ensures)
    c.candidate.ensures.0)
