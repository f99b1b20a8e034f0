-- Three bytes, then three rides.
use native.Mathlib.Omega.{arith}
use Rattle.fields.specs.Numbers.{byte_at}
use Rattle.verdict_lines.specs.Bytes.{connection_of}
use Rattle.verdict_lines.proofs.ByteLaws.{legs-read}
use Rattle.verdict_lines.proofs.connections.connection_of.Goals as goal

pub returns : goal.returns
unfolding connection_of
returns c =
    let b = c.args.b.now in
    let legs = legs-read b (omega arith) c.as_chunks.ensures.front c.leg_of.ensures c.leg_of-2.ensures c.leg_of-3.ensures in
    λ t. record { origin = byte_at b 0; target = byte_at b 1; rides = byte_at b 2; legs = legs t }
