-- Each call has a smaller number.
use Rattle.lines.proofs.digits.+decimal.Given as goal

abbrev pub decreases-decimal : goal.decreases-decimal
decreases-decimal l = l.n
