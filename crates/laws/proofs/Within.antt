-- `Within x k`: x is finite, and at most 2 ^ k in size. Every operation of binary64 keeps such a bound, as long as the exponent stays below
-- 1023: the exact result is at most a power of two, which rounding leaves as it is, and rounding keeps the order.
use mathlib.Core.Path.{◌≡◌, sym, ap, ◌∙◌, subst}
use mathlib.Core.Bool.{Bool, true, false, cond, ◌&&◌, beq}
use Prim.Native.Nat.{ℕ, zero, suc, ◌+◌, ◌-◌, ◌*◌, ◌^◌, ◌≤◌, ◌<◌}
use native.Mathlib.Nat.{le_trans, le_of_eq, lt_of_lt_of_le, mul-one, one-mul, mul_comm, mul_assoc, mul_right_comm, mul-le-mul}
use native.Mathlib.Nat.{mul-le-mul_right, mul-pos}
use native.Mathlib.Omega.{arith}
use lib.Dec.{T, ltb, leb, eqb, eqb-suc-zero, leb→le, lit<}
use lib.Pow.{pow-add, pow-lt}
use lib.IntN.{ℤ, pos, negsuc, nat_abs}
use lib.Ieee.{Float, nan, inf, fin, binary64, up, down, unlike, round, sum, neg, add, sub, mul, div, of_int}
use lib.Ieee.Fits.{down_pos}
use lib.Ieee.Exact.{round_exact}
use Rattle.laws.specs.Floats.{AtMost, Within}
use Rattle.laws.proofs.AtMost.{Stays, neg-at-most, round-at-most, mul-at-most}

-- ---- rounding
room : (k : ℕ) → k ≤ 1023 → k + 1074 < 1074 + 1024
room k h = omega arith

power-stays : (k : ℕ) → k ≤ 1023 → Stays (2 ^ k)
power-stays k h =
    round_exact binary64 false (2 ^ k) 1 1 (k + 1074) (lit< tt) (lit< tt)
    (subst (λ (x : ℕ). x < 2 ^ (1074 + 1024)) (sym (one-mul (2 ^ (k + 1074)))) (pow-lt (room k h)))
    (sym (pow-add 2 k 1074) ∙ sym (one-mul (2 ^ (k + 1074))) ∙ sym (mul-one (1 * 2 ^ (k + 1074))))

pub round-within : (s : Bool) (a c k : ℕ) → 0 < c → k ≤ 1023 → a ≤ 2 ^ k * c → Within (round binary64 s a c) k
round-within s a c k C K h = round-at-most s a c (2 ^ k) C (power-stays k K) h

-- ---- the operations
pub mul-within : (x y : Float) (j k : ℕ) → j + k ≤ 1023 → Within x j → Within y k → Within (mul binary64 x y) (j + k)
mul-within x y j k h v w =
    subst (AtMost (mul binary64 x y)) (sym (pow-add 2 j k))
    (mul-at-most x y (2 ^ j) (2 ^ k) (subst Stays (pow-add 2 j k) (power-stays (j + k) h)) v w)

twice : (p a b : ℕ) → a ≤ p → b ≤ p → a + b ≤ p * 2
twice p a b h k = omega arith

less-l : (p a b : ℕ) → a ≤ p → b ≤ p → b - a ≤ p * 2
less-l p a b h k = omega arith

less-r : (p a b : ℕ) → a ≤ p → b ≤ p → a - b ≤ p * 2
less-r p a b h k = omega arith

double : (k c : ℕ) → 2 ^ k * c * 2 ≡ 2 ^ (k + 1) * c
double k c = mul_right_comm (2 ^ k) c 2 ∙ ap (λ (z : ℕ). z * c) (sym (pow-add 2 k 1))

either : (b : Bool) (x y : Float) (k : ℕ) → Within x k → Within y k → Within (cond b x y) k
either true x y k v w = v
either false x y k v w = w

sum-within : (s : Bool) (a : ℕ) (t : Bool) (b c k : ℕ) → 0 < c → k + 1 ≤ 1023 → a ≤ 2 ^ k * c → b ≤ 2 ^ k * c
    → Within (sum binary64 s a t b c) (k + 1)
unfolding sum
sum-within s a t b c k C K h g =
    let up_to : (z : ℕ) → z ≤ 2 ^ k * c * 2 → z ≤ 2 ^ (k + 1) * c = λ z q. le_trans q (le_of_eq (double k c)) in
    either (beq s t) _ _ (k + 1) (round-within s (a + b) c (k + 1) C K (up_to _ (twice (2 ^ k * c) a b h g)))
    (either (ltb a b) _ _ (k + 1) (round-within t (b - a) c (k + 1) C K (up_to _ (less-l (2 ^ k * c) a b h g)))
    (round-within (s && ltb b a) (a - b) c (k + 1) C K (up_to _ (less-r (2 ^ k * c) a b h g))))

pub add-within : (x y : Float) (k : ℕ) → k + 1 ≤ 1023 → Within x k → Within y k → Within (add binary64 x y) (k + 1)
unfolding add
add-within nan y k h v w = absurd v
add-within (inf s) y k h v w = absurd v
add-within (fin s m e) nan k h v w = absurd w
add-within (fin s m e) (inf t) k h v w = absurd w
add-within (fin s m e) (fin t n d) k h v w =
    sum-within s (m * up e * down d) t (n * up d * down e) (down e * down d) k (mul-pos (down_pos e) (down_pos d)) h
    (le_trans (mul-le-mul_right (down d) v) (le_of_eq (mul_assoc (2 ^ k) (down e) (down d))))
    (le_trans (mul-le-mul_right (down e) w)
    (le_of_eq (mul_assoc (2 ^ k) (down d) (down e) ∙ ap (λ (z : ℕ). 2 ^ k * z) (mul_comm (down d) (down e)))))

pub sub_within : (x y : Float) (k : ℕ) → k + 1 ≤ 1023 → Within x k → Within y k → Within (sub binary64 x y) (k + 1)
unfolding sub
sub_within x y k h v w = add-within x (neg y) k h v (neg-at-most y (2 ^ k) w)

-- y is finite, and at least 1 in size
abbrev pub at_least_one : Float → Bool
at_least_one nan = false
at_least_one (inf s) = false
at_least_one (fin s zero e) = false
at_least_one (fin s (suc m) e) = leb (down e) (suc m * up e)

pub div-within : (x y : Float) (k : ℕ) → k ≤ 1023 → Within x k → T (at_least_one y) → Within (div binary64 x y) k
unfolding div
div-within nan y k h v w = absurd v
div-within (inf s) y k h v w = absurd v
div-within (fin s m e) nan k h v w = absurd w
div-within (fin s m e) (inf t) k h v w = absurd w
div-within (fin s m e) (fin t zero d) k h v w = absurd w
div-within (fin s m e) (fin t (suc n) d) k h v w =
    subst (λ (b : Bool). Within
    (cond b (cond (eqb m 0) nan (inf (unlike s t))) (round binary64 (unlike s t) (m * up e * down d) (suc n * up d * down e))) k)
    (sym (eqb-suc-zero n))
    (round-within (unlike s t) (m * up e * down d) (suc n * up d * down e) k
    (lt_of_lt_of_le (mul-pos (down_pos d) (down_pos e)) (mul-le-mul_right (down e) (leb→le (down d) (suc n * up d) w))) h
    (le_trans (mul-le-mul v (leb→le (down d) (suc n * up d) w))
    (le_of_eq (mul_assoc (2 ^ k) (down e) (suc n * up d) ∙ ap (λ (z : ℕ). 2 ^ k * z) (mul_comm (down e) (suc n * up d))))))

pub of_int-within : (z : ℤ) (k : ℕ) → k ≤ 1023 → nat_abs z ≤ 2 ^ k → Within (of_int binary64 z) k
unfolding of_int
of_int-within (pos n) k h p = round-within false n 1 k (lit< tt) h (le_trans p (le_of_eq (sym (mul-one (2 ^ k)))))
of_int-within (negsuc n) k h p = round-within true (suc n) 1 k (lit< tt) h (le_trans p (le_of_eq (sym (mul-one (2 ^ k)))))
