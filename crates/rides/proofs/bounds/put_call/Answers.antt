-- `put_call` meets its contract: the call's own number, then that for its departure.
use Rattle.rides.proofs.BoundLaws.{filled}
use Rattle.rides.proofs.bounds.put_call.Goals as goal

pub returns : goal.returns
returns c =
    filled _ c.told-bounds c.args.calls.now.fits c.requires.0 c.board_bound-t.ensures c.requires.1 c.put_bucket.ensures
