-- A digit by a shift.
use mathlib.Core.Path.{sym}
use borrow.Author.Tests.{lt-ltb}
use Rattle.services.proofs.Digits.{digit_shift}
use Rattle.connection.specs.Ends.{low_digit}
use Rattle.connection.proofs.ends.low_digit.Goals as goal

pub returns-then-k-lt4 : goal.returns-then-k-lt4
unfolding low_digit
returns-then-k-lt4 c = rw (lt-ltb c.args.k 4 c.if-k-lt4.true) (sym (digit_shift c.args.k c.args.m))
