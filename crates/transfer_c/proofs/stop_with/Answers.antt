-- The record as it is written: the first byte of a number below 256 * 256 is its quotient.
use mathlib.Core.Path.{◌≡◌}
use Prim.Native.Nat.{◌/◌, ◌%◌}
use native.Mathlib.Omega.{arith}
use Rattle.transfer_c.specs.Plain.{stop_with}
use Rattle.transfer_c.proofs.stop_with.Goals as goal

pub returns : goal.returns
unfolding stop_with
returns c =
    let high : c.args.id / 256 % 256 ≡ c.args.id / 256 = omega arith in
    rw (c.to_be_bytes.ensures, high)
