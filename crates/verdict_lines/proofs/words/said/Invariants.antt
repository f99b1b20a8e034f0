-- Number after number.
use Prim.Native.Nat.{◌*◌}
use lib.ListN.{take}
use Rattle.laws.specs.Lists.{concat_map}
use Rattle.buffer.specs.Put.{Put}
use Rattle.lines.specs.Decimal.{spaced}
use Rattle.verdict_lines.proofs.words.said.Given as goal

abbrev pub invariant-loop-n : goal.invariant-loop-n
invariant-loop-n l = Put (21 * l.n-index) (concat_map spaced (take l.n-index l.ns)) l.initial.out l.out
