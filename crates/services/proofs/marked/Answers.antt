-- `marked` meets its contract.
use mathlib.Core.Path.{sym, ◌∙◌}
use native.Mathlib.Omega.{arith}
use borrow.Author.Tests.{le-ltb}
use Rattle.services.proofs.Digits.{digit_shift, digit-past}
use Rattle.services.proofs.marked.Goals as goal

pub returns-then-k-lt8 : goal.returns-then-k-lt8
returns-then-k-lt8 c = sym (digit_shift c.args.k c.args.mask)

pub returns-else-k-lt8 : goal.returns-else-k-lt8
returns-else-k-lt8 c = le-ltb _ _ c.if-k-lt8.false ∙ sym (digit-past 8 c.args.k c.args.mask (omega arith) c.if-k-lt8.false)
