-- By byte 0.
use mathlib.Core.Path.{ap}
use Prim.Native.Nat.{ℕ}
use lib.Dec.{eqb}
use Rattle.reader.proofs.is_second.Goals as goal

pub returns : goal.returns
returns c = ap (λ (n : ℕ). eqb n 2) c.kind_of.ensures
