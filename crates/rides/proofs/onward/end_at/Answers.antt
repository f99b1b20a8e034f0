-- `end_at` meets its contract.
use Rattle.std.proofs.Common.{ap}
use Rattle.profile.specs.Journeys.{row_of}
use Rattle.profile.specs.Found.{Row}
use Rattle.rides.specs.Rows.{three_row, offer_of}
use Rattle.rides.specs.Loops.{end_at}
use Rattle.rides.specs.Sheets.{sheet_of}
use Rattle.rides.proofs.LoopLaws.{single_as}
use Rattle.rides.proofs.onward.end_at.Goals as goal

pub returns : goal.returns
unfolding end_at three_row sheet_of offer_of row_of
returns c =
    rw (← c.at.ensures)
    (single_as
    (ap (λ (o : Row). row_of o.leave o.arrival o.rides o.walk o.origin o.target o.board o.alight
    c.args.r.board c.args.r.alight c.args.p.board c.args.p.alight)
    c.offer-first.ensures)
    c.candidate.ensures.0)
