-- `AtMost x b`: x is finite, and at most the whole number b in size. What is rounded keeps such a bound if rounding leaves b as it is,
-- since rounding keeps the order; so does a product of binary64, and a cut toward zero.
use mathlib.Core.Path.{sym, subst}
use mathlib.Core.Logic.{inl, inr, ◌⊎◌}
use mathlib.Core.Bool.{Bool, true, false, not, cond, ◌&&◌, ◌||◌, true≢false}
use Prim.Native.Nat.{ℕ, zero, suc, ◌+◌, ◌-◌, ◌*◌, ◌/◌, ◌^◌, ◌≤◌, ◌<◌, min}
use native.Mathlib.Nat.{le_refl, le_trans, le_of_eq, le_of_lt, lt_of_lt_of_le, lt_of_le_of_lt, mul-one, mul-mul-mul_comm, mul-le-mul}
use native.Mathlib.Nat.{mul-lt-mul_of_pos_right, mul-pos, div-lt_iff_lt-mul}
use native.Mathlib.Omega.{arith}
use lib.Dec.{T, ltb, eqb, ltb→lt, eqb→eq, lit<, lit≤}
use lib.Pow.{pow_pos}
use lib.IntN.{pos, neg_ℤ, nat_abs}
use lib.Ieee.{Float, nan, inf, fin, Format, binary64, prec, emax, low, up, down, unlike, odd, units, round, mul, neg, le, to_signed}
use lib.Ieee.Fits.{down_pos, and_l, round_is}
use lib.Ieee.Exact.{HasValue, round_exact}
use lib.Ieee.Order.{round_mono}
use lib.Ieee.Positive.{through}
use Rattle.laws.specs.Floats.{AtMost}
use Rattle.laws.proofs.Signs.{round-neg}

pub neg-at-most : (x : Float) (b : ℕ) → AtMost x b → AtMost (neg x) b
unfolding neg
neg-at-most nan b w = w
neg-at-most (inf s) b w = w
neg-at-most (fin s m e) b w = w

-- ---- rounding
abbrev pub plus : Float → Bool
plus nan = false
plus (inf s) = not s
plus (fin s m e) = not s

odd-plus : (d q k l : ℕ) → T (plus (odd d false q k l))
unfolding odd
odd-plus d zero k l = tt
odd-plus d (suc q) k l = tt

units-plus : (f : Format) (q k : ℕ) → T (plus (units f false q k))
unfolding units
units-plus f q k = go (ltb (q * 2 ^ k) (2 ^ (low f + suc (emax f))))
  where
    go : (b : Bool) → T (plus (cond b (odd (suc (prec f)) false q k (low f)) (inf false)))
    go true = odd-plus (suc (prec f)) q k (low f)
    go false = tt

pub round-plus : (f : Format) (a c : ℕ) → T (plus (round f false a c))
round-plus f a c = subst (λ (x : Float). T (plus x)) (sym (round_is f false a c)) (units-plus f _ _)

or_split : (a b : Bool) → T (a || b) → T a ⊎ T b
or_split true b t = inl tt
or_split false b t = inr t

pub lt-or-eq : (a b : ℕ) → T (ltb a b || (eqb a b && true)) → a ≤ b
lt-or-eq a b t =
    elim (or_split (ltb a b) (eqb a b && true) t)
    [ inl u ↦ le_of_lt (ltb→lt a b u) | inr u ↦ le_of_eq (eqb→eq a b (and_l (eqb a b) true u)) ]

at-most-of-le : (x y : Float) (b : ℕ) → T (plus x) → HasValue y false b 1 → T (le x y) → AtMost x b
unfolding le
at-most-of-le nan y b p v h = absurd p
at-most-of-le (inf true) y b p v h = absurd p
at-most-of-le (inf false) nan b p v h = absurd v
at-most-of-le (inf false) (inf t) b p v h = absurd v
at-most-of-le (inf false) (fin t n d) b p v h = absurd h
at-most-of-le (fin true m e) y b p v h = absurd p
at-most-of-le (fin false m e) nan b p v h = absurd v
at-most-of-le (fin false m e) (inf t) b p v h = absurd v
at-most-of-le (fin false m e) (fin true n d) b p v h = absurd (true≢false v.0)
at-most-of-le (fin false m e) (fin false n d) b p v h =
    le_trans (le_of_eq (sym (mul-one (m * up e))))
    (through (m * up e) (n * up d) b (down e) (down d) 1 (down_pos d) (lt-or-eq (m * up e * down d) (n * up d * down e) h) (le_of_eq v.1))

-- rounding leaves the whole number b as it is
abbrev pub Stays : ℕ → Type 0
Stays b = HasValue (round binary64 false b 1) false b 1

pub whole-stays : (b : ℕ) → b < 2 ^ 53 → Stays b
whole-stays b h =
    round_exact binary64 false b 1 b 1074 (lit< tt) h
    (lt_of_lt_of_le (mul-lt-mul_of_pos_right h (pow_pos 1074)) (lit≤ tt))
    (sym (mul-one (b * 2 ^ 1074)))

plain : (a c b : ℕ) → 0 < c → Stays b → a ≤ b * c → AtMost (round binary64 false a c) b
plain a c b C B h =
    at-most-of-le (round binary64 false a c) (round binary64 false b 1) b (round-plus binary64 a c) B
    (round_mono binary64 a c b 1 C (lit< tt) (le_trans (le_of_eq (mul-one a)) h))

pub round-at-most : (s : Bool) (a c b : ℕ) → 0 < c → Stays b → a ≤ b * c → AtMost (round binary64 s a c) b
round-at-most false a c b C B h = plain a c b C B h
round-at-most true a c b C B h =
    subst (λ (x : Float). AtMost x b) (sym (round-neg binary64 a c)) (neg-at-most (round binary64 false a c) b (plain a c b C B h))

pub mul-at-most : (x y : Float) (a b : ℕ) → Stays (a * b) → AtMost x a → AtMost y b → AtMost (mul binary64 x y) (a * b)
unfolding mul
mul-at-most nan y a b h v w = absurd v
mul-at-most (inf s) y a b h v w = absurd v
mul-at-most (fin s m e) nan a b h v w = absurd w
mul-at-most (fin s m e) (inf t) a b h v w = absurd w
mul-at-most (fin s m e) (fin t n d) a b h v w =
    round-at-most (unlike s t) (m * up e * (n * up d)) (down e * down d) (a * b) (mul-pos (down_pos e) (down_pos d)) h
    (le_trans (mul-le-mul v w) (le_of_eq (mul-mul-mul_comm a (down e) b (down d))))

-- ---- what is cut of it is at most that
low-size : (q c : ℕ) → nat_abs (neg_ℤ (pos (min q c))) ≤ q
low-size q c = le_trans (size (min q c)) (least q c)
  where
    size : (n : ℕ) → nat_abs (neg_ℤ (pos n)) ≤ n
    size zero = le_refl 0
    size (suc n) = le_refl (suc n)

    least : (m n : ℕ) → min m n ≤ m
    least m n = omega arith

high-size : (q c : ℕ) → min q c ≤ q
high-size q c = omega arith

quotient : (n d b : ℕ) → 0 < d → n ≤ b * d → n / d ≤ b
quotient n d b D h = below (n / d) b ((div-lt_iff_lt-mul D).1 (strict n b d D h))
  where
    below : (x y : ℕ) → x < suc y → x ≤ y
    below x y k = omega arith

    strict : (n b d : ℕ) → 0 < d → n ≤ b * d → n < suc b * d
    strict n b d D h = lt_of_le_of_lt h (mul-lt-mul_of_pos_right (le_refl (suc b)) D)

pub cut-size : (y : Float) (b : ℕ) → AtMost y b → nat_abs (to_signed 31 y) ≤ b
unfolding to_signed
cut-size nan b w = absurd w
cut-size (inf s) b w = absurd w
cut-size (fin true m e) b w = le_trans (low-size (m * up e / down e) (2 ^ 31)) (quotient (m * up e) (down e) b (down_pos e) w)
cut-size (fin false m e) b w = le_trans (high-size (m * up e / down e) (2 ^ 31 - 1)) (quotient (m * up e) (down e) b (down_pos e) w)
