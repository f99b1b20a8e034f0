-- A text that fits is read back whole.
use Prim.Native.Nat.{min, ◌-◌}
use mathlib.Core.Path.{◌≡◌, refl}
use native.Mathlib.Omega.{arith}
use lib.ListN.{length, replicate}
use lib.Seq.{take_all, take_at}
use Rattle.texts.specs.Texts.{held, ReadWhole}

pub read-whole : ReadWhole
unfolding held
read-whole n s h k =
    let e : min (length s) 255 ≡ length s = omega arith in
    rw (take_all n s h, e) (take_at s (replicate (n - length s) 0) (length s) refl)
