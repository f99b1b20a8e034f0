-- The name's key is the key of what is left, from what is kept.
use mathlib.Core.Path.{◌≡◌}
use lib.ListN.{length}
use Rattle.key.specs.Utf8.{points}
use Rattle.key.specs.Name.{name_key}
use Rattle.key.proofs.Stream.{rest}
use Rattle.key.proofs.name_key.Given as goal

abbrev pub invariant-loop-bytes : goal.invariant-loop-bytes
invariant-loop-bytes l = name_key l.name ≡ rest l.reading.any l.reading.gap l.reading.hash (points l.bytes)

abbrev pub decreases-loop-bytes : goal.decreases-loop-bytes
decreases-loop-bytes l = length l.bytes
