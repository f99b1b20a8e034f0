-- The journeys' lines, then the last, and with rides one more.
use native.Mathlib.Omega.{arith}
use Rattle.lines.proofs.RideLaws.{with-rides, without, all-lines}
use Rattle.lines.proofs.load_lines.Goals as goal

pub returns-then-rides : goal.returns-then-rides
returns-then-rides c = with-rides c.args.load.now c.if-rides.true
    (all-lines _ c.args.load.now c.first.ensures (omega arith) c.journey_lines.ensures) c.horizon_line.ensures c.searched_line.ensures

pub returns-else-rides : goal.returns-else-rides
returns-else-rides c = without c.args.load.now c.if-rides.false
    (all-lines _ c.args.load.now c.first.ensures (omega arith) c.journey_lines.ensures) c.horizon_line.ensures
