-- `joined_none` meets its contract: 0 everywhere.
use Rattle.rides.proofs.JoinedLaws.{joins-unasked, rows-unasked}
use Rattle.rides.proofs.joined.joined_none.Goals as goal

pub returns : goal.returns
returns c =
    let h = c.args.last.now.lent.calls.fits in
    record { least = joins-unasked _ _ _ _ h; blocks = rows-unasked _ _ _ _ h }
