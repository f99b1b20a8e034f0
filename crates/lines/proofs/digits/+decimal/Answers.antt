-- The digits before the last two, then these.
use native.Mathlib.Omega.{arith}
use Rattle.lines.proofs.DecimalLaws.{one-put, two-put, more-put}
use Rattle.lines.proofs.digits.+decimal.Goals as goal
use Rattle.lines.proofs.digits.+decimal.Goals.{then-n-ge100, else-n-ge100}

pub returns-then-n-lt10 : goal.returns-then-n-lt10
returns-then-n-lt10 t c = one-put c.args.n c.if-n-lt10.true c.byte.ensures

pub returns : goal.returns
returns t c =
    elim c.if-n-ge100.branch [
      | then-n-ge100 w ↦ more-put c.args.n (omega arith) (omega arith) w.decimal.ensures (rw w.out-is at c.byte-2.ensures) c.byte-3.ensures
      | else-n-ge100 w ↦ two-put c.args.n (omega arith) (omega arith) (omega arith) (rw w.out-is at c.byte-2.ensures) c.byte-3.ensures
    ]
