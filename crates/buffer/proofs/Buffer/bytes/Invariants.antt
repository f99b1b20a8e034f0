-- Byte after byte.
use lib.ListN.{take}
use Rattle.buffer.specs.Put.{Put}
use Rattle.buffer.proofs.Buffer.bytes.Given as goal

abbrev pub invariant-loop-byte : goal.invariant-loop-byte
invariant-loop-byte l = Put l.byte-index (take l.byte-index l.bytes) l.initial.self l.self
