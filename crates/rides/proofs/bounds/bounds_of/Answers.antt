-- `bounds_of` meets its contract: the calls are put in, then the later times of departure.
use Rattle.rides.proofs.BoundLaws.{bounds-made}
use Rattle.rides.proofs.bounds.bounds_of.Goals as goal

pub returns : goal.returns
returns c = bounds-made c.args.calls.now.fits c.put_calls.ensures c.put_later.ensures
