-- `threshold` meets its contract: a loop over the kept rows from the last.
use native.Mathlib.Omega.{arith}
use Rattle.candidate.proofs.FromLaws.{from-none, from-turn, from-refused, from-rows}
use Rattle.candidate.proofs.times.threshold.Goals as goal

pub returns-then-is_refused : goal.returns-then-is_refused
returns-then-is_refused c = from-refused _ _ _ _ c.is_refused.ensures c.if-is_refused.true

pub loop-i-init : goal.loop-i-init
loop-i-init c = from-none _ _ _ _ _ _ _ c.count-i.ensures (omega arith)

pub loop-i-preserved : goal.loop-i-preserved
loop-i-preserved c =
    from-turn _ _ _ _ _ _ _ _ _ _ c.count-i.ensures (omega arith) (omega arith) c.kept.ensures c.row_from-t.ensures c.loop-i.invariant

pub returns : goal.returns
returns c =
    from-rows _ _ _ _ _ _ _ _ c.is_refused.ensures c.if-is_refused.false (omega (arith, c.horizon.ensures)) (omega arith) c.loop-i.invariant c.min.ensures
