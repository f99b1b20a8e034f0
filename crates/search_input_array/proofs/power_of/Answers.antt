-- A power of two that fits a byte.
use mathlib.Core.Path.{◌≡◌, refl}
use Prim.Native.Nat.{ℕ, zero, suc, ◌*◌, ◌%◌, ◌^◌, ◌≤◌, ◌<◌}
use native.Mathlib.Omega.{arith}
use Rattle.search_input_array.proofs.power_of.Goals as goal

powers : (m : ℕ) → m ≤ 4 → (1 * 2 ^ m % 256 ≡ 2 ^ m) × (0 < 1 * 2 ^ m % 256)
powers zero h = (refl, omega arith)
powers (suc zero) h = (refl, omega arith)
powers (suc (suc zero)) h = (refl, omega arith)
powers (suc (suc (suc zero))) h = (refl, omega arith)
powers (suc (suc (suc (suc zero)))) h = (refl, omega arith)
powers (suc (suc (suc (suc (suc m))))) h = absurd (omega arith)

pub returns : goal.returns
returns c = rw (← c.min.ensures) (powers c.min.result (omega (arith, c.min.ensures)))
