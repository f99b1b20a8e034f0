-- A remainder of the power.
use mathlib.Core.Path.{ap}
use Prim.Native.Nat.{ℕ, ◌%◌}
use Rattle.search_input_array.proofs.digits_of.Goals as goal

pub returns : goal.returns
returns c =
    let m = c.args.members in
    ap (λ (x : ℕ). m % x) c.power_of.ensures.0
