-- The library's bytes, put.
use Rattle.buffer.proofs.ByteLaws.{four_are}
use Rattle.buffer.proofs.Buffer.u32.Goals as goal

pub returns : goal.returns
returns c = rw (c.to_be_bytes.ensures, four_are c.args.n c.ranges.n.fits) at c.bytes.ensures
