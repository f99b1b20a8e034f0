-- Sizes of signed numbers and sums.
use mathlib.Core.Path.{◌≡◌, refl}
use mathlib.Core.Bool.{Bool, true, false, not, cond}
use Prim.Native.Nat.{ℕ, zero, suc, ◌+◌, ◌-◌, ◌^◌, ◌≤◌, ◌<◌}
use native.Mathlib.Nat.{le_refl, le_trans, le-suc, lt_of_le_of_lt}
use native.Mathlib.Omega.{arith}
use lib.Dec.{T, ltb, ltb→lt, lit<}
use lib.IntN.{ℤ, pos, negsuc, neg_ℤ, nat_abs, sub_ℕ, ◌+ℤ◌}
use lib.Signed.{mag}
use mir.Syntax.{Width, w64}
use mir.Val.{SFits, to_z, of_z}
use mir.Facts.{to_z-of_z}

-- a number that its width holds is read back from its bits
pub again : {w : Width} {z : ℤ} → SFits w z → to_z w (of_z w z) ≡ z
again f = to_z-of_z f

-- ---- sizes
either : (c : Bool) (x y : ℤ) (n : ℕ) → (T c → nat_abs x ≤ n) → (T (not c) → nat_abs y ≤ n) → nat_abs (cond c x y) ≤ n
either true x y n f g = f tt
either false x y n f g = g tt

below : (a b : ℕ) → a < b → suc (b - suc a) ≤ a + b
below a b h = omega arith

above : (a b : ℕ) → a - b ≤ a + b
above a b = omega arith

nat_abs-subℕ : (a b : ℕ) → nat_abs (sub_ℕ a b) ≤ a + b
nat_abs-subℕ a b = either (ltb a b) (negsuc (b - suc a)) (pos (a - b)) (a + b) (λ t. below a b (ltb→lt a b t)) (λ t. above a b)

swap : (a b n : ℕ) → n ≤ a + b → n ≤ b + a
swap a b n h = omega arith

both : (a b : ℕ) → suc (suc (a + b)) ≤ suc a + suc b
both a b = omega arith

pub nat_abs-+ℤ : (a b : ℤ) → nat_abs (a +ℤ b) ≤ nat_abs a + nat_abs b
nat_abs-+ℤ (pos a) (pos b) = le_refl (a + b)
nat_abs-+ℤ (pos a) (negsuc b) = nat_abs-subℕ a (suc b)
nat_abs-+ℤ (negsuc a) (pos b) = swap b (suc a) (nat_abs (sub_ℕ b (suc a))) (nat_abs-subℕ b (suc a))
nat_abs-+ℤ (negsuc a) (negsuc b) = both a b

pub nat_abs-negℤ : (a : ℤ) → nat_abs (neg_ℤ a) ≡ nat_abs a
nat_abs-negℤ (pos zero) = refl
nat_abs-negℤ (pos (suc n)) = refl
nat_abs-negℤ (negsuc n) = refl

mag≤natAbs : (z : ℤ) → mag z ≤ nat_abs z
mag≤natAbs (pos n) = le_refl n
mag≤natAbs (negsuc n) = le-suc n

-- up to 2 ^ 42 in size is well within an `i64`
pub small : (z : ℤ) → nat_abs z ≤ 2 ^ 42 → SFits w64 z
small z h = record { sfits = lt_of_le_of_lt (le_trans (mag≤natAbs z) h) (lit< tt) }
