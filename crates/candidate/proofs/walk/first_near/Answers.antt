-- `first_near` meets its contract, turn by turn.
use native.Mathlib.Omega.{arith}
use Rattle.candidate.proofs.TurnLaws.{walk-on, walk-covered, walk-stops}
use Rattle.candidate.proofs.walk.first_near.Goals as goal

pub returns-in-Covered : goal.returns-in-Covered
returns-in-Covered c = walk-covered _ _ _ _ c.requires.0 c.turn_at.ensures c.loop-i.invariant.0 c.in-Covered.is

pub returns-in-Stops : goal.returns-in-Stops
returns-in-Stops c = walk-stops _ _ _ _ c.requires.0 c.turn_at.ensures c.loop-i.invariant.0 _ c.in-Stops.is c.loop-i.invariant.2

pub loop-i-smaller : goal.loop-i-smaller
loop-i-smaller c =
    let w = walk-on _ _ _ _ c.requires.0 c.turn_at.ensures c.loop-i.invariant.0 c.in-On.is in
    omega (arith, w.1)

pub loop-i-preserved : goal.loop-i-preserved
loop-i-preserved c =
    let w = walk-on _ _ _ _ c.requires.0 c.turn_at.ensures c.loop-i.invariant.0 c.in-On.is in
    (w.0, omega (arith, w.1), omega (arith, c.loop-i.invariant.2))
