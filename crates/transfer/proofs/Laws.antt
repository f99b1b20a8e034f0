-- What the proofs of this crate share: ranks, rules read one by one.
use Rattle.std.specs.Prelude.{None, Option, Some}
use Prim.Native.Nat.{◌+◌, ◌*◌}
use mathlib.Core.Path.{◌≡◌}
use mathlib.Core.Bool.{Bool, false}
use Rattle.laws.proofs.Bools.{cond-not}
use Rattle.rules.specs.declared.Rule.{Rule}
use Rattle.transfer.specs.declared.Ends.{Ends}
use Rattle.transfer.specs.Choice.{bit, applies, read}

pub bits : {p q a b : Bool} → p ≡ a → q ≡ b → 2 * bit p + bit q ≡ 2 * bit a + bit b
bits e f = rw (e, f)

-- a rule that does not apply changes nothing
pub read_none : (e : Ends) (b : Option Rule) (r : Rule) → applies e r ≡ false → read e b r ≡ b
read_none e (Some old) r h = cond-not _ _ h
read_none e None r h = cond-not _ _ h
