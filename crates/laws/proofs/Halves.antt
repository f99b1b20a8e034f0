-- A product modulo H * H by halves modulo H, for any H: what a wrapping product is made of; and the bound of a product of two halves.
use Prim.Native.Nat.{ℕ, ◌+◌, ◌*◌, ◌/◌, ◌%◌, ◌^◌, ◌<◌}
use mathlib.Core.Path.{◌≡◌, sym, ap, ap₂, ◌∙◌, subst⁻¹}
use native.Mathlib.Nat.{mul-add, add-mul, mul_assoc, mul_right_comm, mul_left_comm, div-add-mod', mod-mod_of_dvd, dvd-mul_right}
use native.Mathlib.Nat.{add-mul-mod_self_right, lt_of_le_of_lt, mul-le-mul_left, mul-lt-mul_of_pos_right, le_of_lt}
use native.Mathlib.Omega.{arith}
use lib.Pow.{pow-add, pow_pos}

pub below : (k : ℕ) {a b : ℕ} → a < 2 ^ k → b < 2 ^ k → a * b < 2 ^ (k + k)
below k {a} {b} ha hb =
    subst⁻¹ (λ (n : ℕ). a * b < n) (pow-add 2 k k)
    (lt_of_le_of_lt (mul-le-mul_left a (le_of_lt hb)) (mul-lt-mul_of_pos_right ha (pow_pos k)))

module _ (H : ℕ) where
  -- the four products of the halves
  four : (p q r s : ℕ) → (p * H + q) * (r * H + s) ≡ q * s + (p * s + q * r) * H + p * r * (H * H)
  four p q r s =
      let high : p * H * (r * H) ≡ p * r * (H * H) =
      mul_assoc p H (r * H) ∙ ap (λ (n : ℕ). p * n) (mul_left_comm H r H) ∙ sym (mul_assoc p r (H * H)) in
      simp (mul-add, add-mul) (omega (arith, high, mul_right_comm p H s, mul_assoc q r H))

  -- the middle sum counts modulo H alone
  middle : (x : ℕ) → x * H ≡ x % H * H + x / H * (H * H)
  middle x =
      let e : (x / H * H + x % H) * H ≡ x * H = ap (λ (n : ℕ). n * H) (div-add-mod' x H) in
      omega (arith, e, add-mul (x / H * H) (x % H) H, mul_assoc (x / H) H H)

  pub halves : (a b : ℕ) → (a % H * (b % H) + (a / H * (b % H) + a % H * (b / H)) % (H * H) % H * H) % (H * H) ≡ (a * b) % (H * H)
  halves a b =
      let p = a / H in
      let q = a % H in
      let r = b / H in
      let s = b % H in
      let x = p * s + q * r in
      let same : x % (H * H) % H ≡ x % H = mod-mod_of_dvd H x (dvd-mul_right H H) in
      let whole : a * b ≡ (p * H + q) * (r * H + s) = sym (ap₂ (λ (m n : ℕ). m * n) (div-add-mod' a H) (div-add-mod' b H)) in
      let sum : a * b ≡ q * s + x % H * H + (p * r + x / H) * (H * H) =
      whole ∙ omega (arith, four p q r s, middle x, add-mul (p * r) (x / H) (H * H)) in
      ap (λ (n : ℕ). (q * s + n * H) % (H * H)) same
      ∙ sym (ap (λ (n : ℕ). n % (H * H)) sum ∙ add-mul-mod_self_right (q * s + x % H * H) (p * r + x / H) (H * H))
