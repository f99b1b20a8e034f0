-- What owning a value tells of it: its numbers fit their types.
use mathlib.Core.List.{List, [], ◌∷◌}
use lib.ListN.{get_or}
use Prim.Native.Nat.{ℕ, zero, suc, ◌<◌, ◌^◌}
use native.Mathlib.Omega.{arith}
use borrow.Kind.Array.{e_int}
use denote.Array.{each}
use denote.Shadow.{shadow}
use mir.Syntax.{Width, w16}
use mir.Val.{Val, bits}

-- each number of an array fits its type
fit : (w : Width) → 0 < 2 ^ bits w → (xs : List ℕ) (us : List Val) → shadow (each (e_int w).ty.Denot (e_int w).ty.own_val xs us) → (i : ℕ)
    → get_or xs i 0 < 2 ^ bits w
fit w h [] us s i = h
fit w h (x ∷ xs) [] s i = absurd s
fit w h (x ∷ xs) (u ∷ us) s zero = s.0.1
fit w h (x ∷ xs) (u ∷ us) s (suc i) = fit w h xs us s.1 i

pub numbers-small : (xs : List ℕ) (us : List Val) → shadow (each (e_int w16).ty.Denot (e_int w16).ty.own_val xs us) → (i : ℕ)
    → get_or xs i 0 < 65536
numbers-small = fit w16 (omega arith)
