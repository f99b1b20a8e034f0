-- `direct_at` meets its contract.
use Rattle.profile.specs.Journeys.{row_of}
use Rattle.rides.specs.Rows.{direct_row, offer_of}
use Rattle.rides.specs.Loops.{direct_at}
use Rattle.rides.specs.Sheets.{sheet_of}
use Rattle.rides.proofs.LoopLaws.{single_as}
use Rattle.rides.proofs.paths.direct_at.Goals as goal

pub returns : goal.returns
unfolding direct_at direct_row sheet_of offer_of row_of
returns c =
    single_as c.offer.ensures c.candidate.ensures.0
