-- `row` meets its contract.
use Rattle.std.proofs.Common.{refl, arith, ◌≡◌}
use Rattle.rides.proofs.onward.ThreeRides.row.Goals as goal

pub returns-then-left-eq0 : goal.returns-then-left-eq0
returns-then-left-eq0 c = rw c.if-left-eq0.true refl

pub returns : goal.returns
returns c = let e : c.args.left ≡ 1 = omega (arith, c.requires, c.if-left-eq0.false) in rw e refl
