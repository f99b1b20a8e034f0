-- What is left to hand in gives what all of it gives.
use mathlib.Core.Path.{refl}
use Prim.Native.Nat.{◌-◌}
use native.Mathlib.Omega.{arith}
use Rattle.steps_c.proofs.TurnLaws.{next-turn, last_turn}
use Rattle.steps_c.proofs.handed.Goals as goal

pub loop-left-init : goal.loop-left-init
loop-left-init g c = λ f says. refl

pub loop-left-preserved : goal.loop-left-preserved
loop-left-preserved g c =
    let L = c.loop-left in
    λ f says. next-turn f L.left L.next (omega arith) (says L.next (L.left - 1) _ (omega arith) c.step-next.ensures) (L.invariant f says)

pub returns : goal.returns
returns g c = let L = c.loop-left in λ f says. last_turn f L.left L.next (omega arith) (L.invariant f says)
