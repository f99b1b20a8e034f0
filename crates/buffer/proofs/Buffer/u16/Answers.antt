-- The library's bytes, put.
use Rattle.buffer.proofs.ByteLaws.{two_are}
use Rattle.buffer.proofs.Buffer.u16.Goals as goal

pub returns : goal.returns
returns c = rw (c.to_be_bytes.ensures, two_are c.args.n c.ranges.n.fits) at c.bytes.ensures
