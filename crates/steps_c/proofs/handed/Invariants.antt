-- What is left to hand in gives what all of it gives.
use mathlib.Core.Path.{◌≡◌}
use Prim.Native.Nat.{ℕ, ◌<◌}
use Rattle.load.specs.declared.Load.{Load}
use Rattle.steps_c.specs.Steps.{turns}
use Rattle.steps_c.proofs.handed.Given as goal

abbrev pub invariant-loop-left : goal.invariant-loop-left
invariant-loop-left g l =
    (f : ℕ → Load → Load) → ((m : Load) (k : ℕ) (r : Load) → k < l.times → goal.F-post g l.step m k r → r ≡ f k m)
    → turns l.left f l.next ≡ turns l.times f l.initial.next
