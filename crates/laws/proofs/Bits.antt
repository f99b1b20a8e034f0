-- The set digits of a number: which they are, those of a mask, and the lowest of a mask.
use mathlib.Core.Path.{◌≡◌, refl}
use mathlib.Core.Logic.{◌⊎◌, inl, inr}
use mathlib.Core.Bool.{Bool, true, false, cond}
use mathlib.Core.List.Memᴰ
use mathlib.Core.List.{[], ◌∷◌, Memᴰ}
use Prim.Native.Nat.{ℕ, zero, suc, ◌+◌, ◌*◌, ◌/◌, ◌%◌, ◌^◌, ◌<◌}
use native.Mathlib.Omega.{arith}
use native.Mathlib.Nat.{le_of_suc-le-suc}
use lib.Count.{count_trailing_zeros}
use lib.Dec.{eqb, lit<}
use lib.Pow.{mod-pow-add, mod-mod-pow}
use Rattle.laws.proofs.Every.{Each, each_at}
use Rattle.laws.specs.Bits.{digit, bits_from, bits_of, low_of, cleared, Lowest, LowestFirst}

pub bits-mem : (n b m : ℕ) {k : ℕ} → Memᴰ k (bits_from n b m) → (i : ℕ) × (i < n) × (k ≡ b + i) × (digit i m ≡ true)
bits-mem zero b m w = absurd (Memᴰ.not-nil w)
bits-mem (suc n) b m {k} w = step (eqb (m % 2) 1) refl (λ v. bits-mem n (suc b) (m / 2) v) w
  where
    Later : Type 0
    Later = Memᴰ k (bits_from n (suc b) (m / 2)) → (i : ℕ) × (i < n) × (k ≡ suc b + i) × (digit i (m / 2) ≡ true)

    next : Later → Memᴰ k (bits_from n (suc b) (m / 2)) → (i : ℕ) × (i < suc n) × (k ≡ b + i) × (digit i m ≡ true)
    next ih v = let (i, h, e, d) = ih v in (suc i, omega arith, omega arith, d)

    found : eqb (m % 2) 1 ≡ true → Later → (k ≡ b) ⊎ Memᴰ k (bits_from n (suc b) (m / 2))
        → (i : ℕ) × (i < suc n) × (k ≡ b + i) × (digit i m ≡ true)
    found e ih (inl q) = (0, omega arith, omega arith, e)
    found e ih (inr v) = next ih v

    step : (c : Bool) → eqb (m % 2) 1 ≡ c → Later → Memᴰ k (cond c (b ∷ bits_from n (suc b) (m / 2)) (bits_from n (suc b) (m / 2)))
        → (i : ℕ) × (i < suc n) × (k ≡ b + i) × (digit i m ≡ true)
    step true e ih v = found e ih (Memᴰ.cases_cons v)
    step false e ih v = next ih v

pub mem-bits : (n b m i : ℕ) → i < n → digit i m ≡ true → Memᴰ (b + i) (bits_from n b m)
mem-bits zero b m i h d = absurd (omega arith)
mem-bits (suc n) b m zero h d = let q : b + 0 ≡ b = omega arith in rw d (Memᴰ.head q)
mem-bits (suc n) b m (suc i) h d = step (eqb (m % 2) 1) (rw q (mem-bits n (suc b) (m / 2) i (omega arith) d))
  where
    q : b + suc i ≡ suc b + i
    q = omega arith

    step : (c : Bool) → Memᴰ (b + suc i) (bits_from n (suc b) (m / 2))
        → Memᴰ (b + suc i) (cond c (b ∷ bits_from n (suc b) (m / 2)) (bits_from n (suc b) (m / 2)))
    step true v = Memᴰ.tail v
    step false v = v

-- those of the first n digits, as they stand in the specs
pub bits-set : (n m : ℕ) {k : ℕ} → Memᴰ k (bits_from n 0 m) → (k < n) × (digit k m ≡ true)
bits-set n m {k} w =
    let (i, h, e, d) = bits-mem n 0 m w in
    let q : k ≡ i = omega arith in
    (omega arith, rw q d)

pub set-bits : (n m k : ℕ) → k < n → digit k m ≡ true → Memᴰ k (bits_from n 0 m)
set-bits n m k h d =
    let q : 0 + k ≡ k = omega arith in
    rw q at (mem-bits n 0 m k h d)

-- ---- a mask of n digits, read to more

bits-zero : (k b : ℕ) → bits_from k b 0 ≡ []
bits-zero zero b = refl
bits-zero (suc k) b = bits-zero k (suc b)

-- a membership without the bits past the count n, read to n + k digits
pub bits-masked : (n k b m : ℕ) → bits_from (n + k) b (m % 2 ^ n) ≡ bits_from n b m
bits-masked zero k b m =
    let z : m % 2 ^ 0 ≡ 0 = omega arith in
    let q : 0 + k ≡ k = omega arith in
    rw (z, q) (bits-zero k b)
bits-masked (suc n) k b m =
    let q : suc n + k ≡ suc (n + k) = omega arith in
    let s : suc n ≡ n + 1 = omega arith in
    let low : m % 2 ^ suc n % 2 ≡ m % 2 = rw s (mod-mod-pow m n 1) in
    let parts : m % 2 ^ suc n ≡ (m / 2 % 2 ^ n) * 2 + m % 2 = rw s (mod-pow-add m n 1) in
    let high : m % 2 ^ suc n / 2 ≡ m / 2 % 2 ^ n = omega arith in
    rw (q, low, high, bits-masked n k (suc b) (m / 2))

-- ---- the lowest set digit

lowest-each : Each (λ k. Lowest (suc k)) 15
unfolding bits_of low_of cleared count_trailing_zeros
lowest-each = (record { parts = refl; less = lit< tt; low = lit< tt }, (record { parts = refl; less = lit< tt; low = lit< tt }, (record { parts = refl; less = lit< tt; low = lit< tt }, (record { parts = refl; less = lit< tt; low = lit< tt }, (record { parts = refl; less = lit< tt; low = lit< tt }, (record { parts = refl; less = lit< tt; low = lit< tt }, (record { parts = refl; less = lit< tt; low = lit< tt }, (record { parts = refl; less = lit< tt; low = lit< tt }, (record { parts = refl; less = lit< tt; low = lit< tt }, (record { parts = refl; less = lit< tt; low = lit< tt }, (record { parts = refl; less = lit< tt; low = lit< tt }, (record { parts = refl; less = lit< tt; low = lit< tt }, (record { parts = refl; less = lit< tt; low = lit< tt }, (record { parts = refl; less = lit< tt; low = lit< tt }, (record { parts = refl; less = lit< tt; low = lit< tt }, tt)))))))))))))))

pub lowest-first : LowestFirst
lowest-first zero f h = absurd (f refl)
lowest-first (suc k) f h = each_at (λ k. Lowest (suc k)) 15 lowest-each k (le_of_suc-le-suc h)

pub bits_none : bits_of 0 ≡ []
unfolding bits_of
bits_none = refl
