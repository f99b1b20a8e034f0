-- Byte after byte.
use native.Mathlib.Omega.{arith}
use lib.Seq.{take_all}
use Rattle.buffer.proofs.PutLaws.{put-none, put_as, put-within, byte-turn}
use Rattle.buffer.proofs.Buffer.bytes.Goals as goal

pub loop-byte-init : goal.loop-byte-init
loop-byte-init c = put-none _

pub loop-byte-preserved : goal.loop-byte-preserved
loop-byte-preserved c = byte-turn _ c.loop-byte.byte-index (omega arith) c.loop-byte.invariant c.byte.ensures

pub returns : goal.returns
returns c =
    let L = c.loop-byte in
    put_as (take_all L.byte-index c.args.bytes.now (omega arith)) (put-within _ (omega arith) L.invariant)
