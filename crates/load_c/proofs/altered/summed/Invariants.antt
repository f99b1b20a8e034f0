-- What is left to do adds what is left of the sum.
use mathlib.Core.Path.{◌≡◌}
use Prim.Native.Nat.{◌+◌, ◌*◌, ◌-◌, ◌≤◌}
use Rattle.load.specs.declared.Load.{Load}
use Rattle.load.specs.declared.StepResult.{StepResult}
use Rattle.load_c.specs.Searches.{horizon_after, sum_of}
use Rattle.load_c.proofs.altered.summed.Given as goal

abbrev pub invariant-loop-left : goal.invariant-loop-left
invariant-loop-left g l =
    (l.sum ≤ 65535 * (l.times - l.left))
    × ((f : Load → StepResult) → ((m : Load) (r : StepResult) → goal.F-post g l.step m r → r ≡ f m)
    → l.sum + sum_of (horizon_after f) l.left l.next ≡ sum_of (horizon_after f) l.times l.initial.next)
