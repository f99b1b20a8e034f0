-- The library's bytes, put.
use Rattle.buffer.proofs.ByteLaws.{eight_are}
use Rattle.buffer.proofs.Buffer.u64.Goals as goal

pub returns : goal.returns
returns c = rw (c.to_be_bytes.ensures, eight_are c.args.n c.ranges.n.fits) at c.bytes.ensures
