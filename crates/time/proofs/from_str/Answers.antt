-- `from_str` meets its contract: the check finds each refusal among the tests of `Laws`; a text with its colons and digits is read by its
-- hours.
use Prim.Native.Nat.{◌+◌, ◌*◌}
use mathlib.Core.Path.{sym, ap, ap₂, ◌∙◌}
use native.Mathlib.Omega.{arith}
use lib.ListN.{length-take}
use Rattle.std.proofs.Common.{rules}
use Rattle.time.specs.Hours.{with_hours}
use Rattle.time.proofs.Laws.{right}
use Rattle.time.proofs.from_str.Goals as goal

pub returns : goal.returns
returns c =
    c.with_hours.ensures
    ∙ ap (with_hours 0 _) (ap₂ (λ m n. m * 60 + n) c.pair.ensures c.pair-2.ensures)
    ∙ right _ (grind (arith, length-take)) (search rules) (search rules) (sym c.below_sixty.ensures ∙ c.if-not-below_sixty.false)
    (sym c.below_sixty-else-not-below_sixty.ensures ∙ c.if-not-below_sixty-2.false)
