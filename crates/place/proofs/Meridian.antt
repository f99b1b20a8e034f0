-- At equal longitude two positions are close by exactly where their latitudes differ by at most 1124 microdegrees: the square of the
-- distance grows with the difference, and 1124 and 1125 are computed.
use Rattle.std.proofs.Common.{◌≡◌, ℕ, zero, suc, ◌+◌, ◌*◌, ◌^◌, ◌<◌, ◌≤◌, Bool, true, false, not, T, leb, ℤ, pos, negsuc, ◌+ℤ◌, ◌-ℤ◌}
use Rattle.std.proofs.Common.{nat_abs, sym, refl, ap, ◌∙◌, subst, le_trans, le_of_eq, zero-lt-suc, mul-pos, one-mul, zero-add, zero-mul}
use Rattle.std.proofs.Common.{mul-one, arith, lit<, lit≤, leb→le}
use lib.Dec.{nleb→lt}
use lib.IntN.{+ℤ_invr}
use lib.Ieee.{Float, nan, inf, fin, binary64, up, down, of_bits, of_int, round, sum, add, mul, div, le, unlike}
use lib.Ieee.Fits.{down_pos}
use lib.Ieee.Order.{round_mono}
use lib.Ieee.Scale.{round_same}
use lib.Ieee.Positive.{num, den, den_pos, positive, le→cross, le_trans_positive, between, mul_mono}
use Rattle.place.specs.Numbers.{n125, n111195, n1_m, ◌⊕◌, ◌⊗◌, ◌⊘◌}
use Rattle.place.specs.Near.{close_by, close_at, angle, square, series, metres, turn, around}
use Rattle.laws.proofs.Tests.{both_ways}
use Rattle.place.proofs.Symmetric.{metres-neg}
use Rattle.laws.specs.Floats.{Within}
use Rattle.place.proofs.Cosine.{cosine-within}

-- ---- zero
abbrev pub nought : Bool → Float
nought s = fin s 0 (pos 0)

round-nought : (s : Bool) (c : ℕ) → 0 < c → round binary64 s 0 c ≡ nought s
round-nought s c C = round_same binary64 s 0 c 0 1 C (lit< tt) (zero-mul 1 ∙ sym (zero-mul c)) ∙ at_one s
  where
    at_one : (t : Bool) → round binary64 t 0 1 ≡ nought t
    at_one t = unfold round in refl

-- zero times what is finite is a zero, and its square is +0
nought-square : (x : Float) (k : ℕ) → Within x k → square (nought false ⊗ x) ≡ nought false
unfolding square mul
nought-square nan k w = absurd w
nought-square (inf s) k w = absurd w
nought-square (fin s m e) k w =
    ap (λ (y : Float). y ⊗ y)
    (ap (λ (n : ℕ). round binary64 (unlike false s) n (1 * down e)) (zero-mul (m * up e))
    ∙ round-nought (unlike false s) (1 * down e) (mul-pos (lit< tt) (down_pos e)))
    ∙ plus s
  where
    plus : (t : Bool) → nought (unlike false t) ⊗ nought (unlike false t) ≡ nought false
    plus true = unfold round in refl
    plus false = unfold round in refl

no_way : metres (of_int binary64 (pos 0)) ≡ nought false
unfolding metres of_int mul of_bits div round
no_way = refl

-- ---- the square of the distance of two places on one meridian, n microdegrees apart
unfoldable pub reach : ℕ → Float
reach n = nought false ⊕ square (metres (of_int binary64 (pos n)))

abbrev limit : Float
limit = n125 ⊗ n125

-- what holds at the ends of the range, computed
abbrev top : ℕ
top = 2 ^ 32

abbrev w : ℕ → Float
w n = of_int binary64 (pos n)

abbrev k : Float
k = n111195 ⊘ n1_m

w-lo : T (positive (w 1))
unfolding of_int round
w-lo = tt

w-hi : T (positive (w top))
unfolding of_int round
w-hi = tt

k-pos : T (positive k)
unfolding of_bits div round
k-pos = tt

m-lo : T (positive (metres (w 1)))
unfolding metres of_int mul of_bits div round
m-lo = tt

m-hi : T (positive (metres (w top)))
unfolding metres of_int mul of_bits div round
m-hi = tt

s-lo : T (positive (square (metres (w 1))))
unfolding square metres of_int mul of_bits div round
s-lo = tt

s-hi : T (positive (square (metres (w top))))
unfolding square metres of_int mul of_bits div round
s-hi = tt

r-lo : T (positive (reach 1))
unfolding reach square metres of_int mul of_bits div round add
r-lo = tt

r-hi : T (positive (reach top))
unfolding reach square metres of_int mul of_bits div round add
r-hi = tt

limit-pos : T (positive limit)
unfolding mul of_bits round
limit-pos = tt

r-0 : le (reach 0) limit ≡ true
unfolding reach square metres of_int mul of_bits div round add le
r-0 = refl

-- 1124 microdegrees are in, and 1125 are out
r-1124 : le (reach 1124) limit ≡ true
unfolding reach square metres of_int mul of_bits div round add le
r-1124 = refl

r-1125 : le (reach 1125) limit ≡ false
unfolding reach square metres of_int mul of_bits div round add le
r-1125 = refl

-- ---- in order
w-mono : (m n : ℕ) → m ≤ n → T (le (w m) (w n))
unfolding of_int
w-mono m n h = round_mono binary64 m 1 n 1 (lit< tt) (lit< tt) (le_trans (le_of_eq (mul-one m)) (le_trans h (le_of_eq (sym (mul-one n)))))

w-pos : (n : ℕ) → 1 ≤ n → n ≤ top → T (positive (w n))
w-pos n a b = between (w 1) (w n) (w top) w-lo w-hi (w-mono 1 n a) (w-mono n top b)

m-mono : (m n : ℕ) → 1 ≤ m → m ≤ n → n ≤ top → T (le (metres (w m)) (metres (w n)))
unfolding metres
m-mono m n a h b =
    mul_mono binary64 (w m) (w n) k k (w-pos m a (le_trans h b)) (w-pos n (le_trans a h) b) k-pos k-pos (w-mono m n h)
    (unfold of_bits div round le in tt)

m-pos : (n : ℕ) → 1 ≤ n → n ≤ top → T (positive (metres (w n)))
m-pos n a b = between (metres (w 1)) (metres (w n)) (metres (w top)) m-lo m-hi (m-mono 1 n (lit≤ tt) a b) (m-mono n top a b (lit≤ tt))

s-mono : (m n : ℕ) → 1 ≤ m → m ≤ n → n ≤ top → T (le (square (metres (w m))) (square (metres (w n))))
unfolding square
s-mono m n a h b =
    let p = m-pos m a (le_trans h b) in
    let q = m-pos n (le_trans a h) b in
    mul_mono binary64 (metres (w m)) (metres (w n)) (metres (w m)) (metres (w n)) p q p q (m-mono m n a h b) (m-mono m n a h b)

s-pos : (n : ℕ) → 1 ≤ n → n ≤ top → T (positive (square (metres (w n))))
s-pos n a b =
    between (square (metres (w 1))) (square (metres (w n))) (square (metres (w top))) s-lo s-hi (s-mono 1 n (lit≤ tt) a b)
    (s-mono n top a b (lit≤ tt))

-- +0 added to what is above zero rounds it once more
plus-is : (x : Float) → T (positive x) → nought false ⊕ x ≡ round binary64 false (num x) (den x)
unfolding add sum
plus-is nan p = absurd p
plus-is (inf s) p = absurd p
plus-is (fin true m e) p = absurd p
plus-is (fin false m e) p =
    ap (λ (a : ℕ). round binary64 false a (1 * down e)) (ap (λ (a : ℕ). a + m * up e * 1) (zero-mul (down e)) ∙ zero-add (m * up e * 1)
    ∙ mul-one (m * up e))
    ∙ ap (λ (c : ℕ). round binary64 false (m * up e) c) (one-mul (down e))

plus-mono : (x y : Float) → T (positive x) → T (positive y) → T (le x y) → T (le (nought false ⊕ x) (nought false ⊕ y))
plus-mono x y p q h =
    subst (λ (z : Float). T (le z (nought false ⊕ y))) (sym (plus-is x p))
    (subst (λ (z : Float). T (le (round binary64 false (num x) (den x)) z)) (sym (plus-is y q))
    (round_mono binary64 (num x) (den x) (num y) (den y) (den_pos x) (den_pos y) (le→cross x y p q h)))

r-mono : (m n : ℕ) → 1 ≤ m → m ≤ n → n ≤ top → T (le (reach m) (reach n))
unfolding reach
r-mono m n a h b =
    plus-mono (square (metres (w m))) (square (metres (w n))) (s-pos m a (le_trans h b)) (s-pos n (le_trans a h) b) (s-mono m n a h b)

r-pos : (n : ℕ) → 1 ≤ n → n ≤ top → T (positive (reach n))
r-pos n a b = between (reach 1) (reach n) (reach top) r-lo r-hi (r-mono 1 n (lit≤ tt) a b) (r-mono n top a b (lit≤ tt))

-- ---- the two instances decide all
within : (n : ℕ) → n ≤ 1124 → T (le (reach n) limit)
within zero h = subst T (sym r-0) tt
within (suc n) h =
    let a : 1 ≤ suc n = zero-lt-suc n in
    let b : suc n ≤ top = le_trans h (lit≤ tt) in
    le_trans_positive (reach (suc n)) (reach 1124) limit (r-pos (suc n) a b) (r-pos 1124 (lit≤ tt) (lit≤ tt)) limit-pos
    (r-mono (suc n) 1124 a h (lit≤ tt)) (subst T (sym r-1124) tt)

beyond : (n : ℕ) → 1125 ≤ n → n ≤ top → T (le (reach n) limit) → ⊥
beyond n h b t =
    let a : 1 ≤ n = omega arith in
    subst T r-1125
    (le_trans_positive (reach 1125) (reach n) limit (r-pos 1125 (lit≤ tt) (lit≤ tt)) (r-pos n a b) limit-pos
    (r-mono 1125 n (lit≤ tt) h b) t)

pub reach-is : (n : ℕ) → n ≤ top → le (reach n) limit ≡ leb n 1124
reach-is n b = both_ways (le (reach n) limit) (leb n 1124) (λ t. go (leb n 1124) (nleb→lt n 1124) t) (λ t. within n (leb→le n 1124 t))
  where
    go : (x : Bool) → (T (not x) → 1124 < n) → T (le (reach n) limit) → T x
    go true f t = tt
    go false f t = absurd (beyond n (f tt) b t)

-- ---- the test
square-size : (z : ℤ) → square (metres (of_int binary64 z)) ≡ square (metres (of_int binary64 (pos (nat_abs z))))
square-size (pos n) = refl
square-size (negsuc n) = metres-neg (pos (suc n))

turn-none : (a : ℤ) → turn a a ≡ pos 0
unfolding turn around
turn-none a = ap around (+ℤ_invr a)

pub close-meridian : (alat blat lon : ℤ) → nat_abs (alat +ℤ blat) ≤ 2 ^ 32 → nat_abs (alat -ℤ blat) ≤ 2 ^ 32
    → close_by alat lon blat lon ≡ leb (nat_abs (alat -ℤ blat)) 1124
unfolding close_by close_at reach
close-meridian alat blat lon h g =
    ap (λ (t : ℤ). close_at (of_int binary64 (alat +ℤ blat)) (of_int binary64 t) (of_int binary64 (alat -ℤ blat))) (turn-none lon)
    ∙ ap (λ (x : Float). le
    (square (x ⊗ series (square (angle (of_int binary64 (alat +ℤ blat))))) ⊕ square (metres (of_int binary64 (alat -ℤ blat)))) limit) no_way
    ∙ ap (λ (x : Float). le (x ⊕ square (metres (of_int binary64 (alat -ℤ blat)))) limit)
    (nought-square (series (square (angle (of_int binary64 (alat +ℤ blat))))) 345 (cosine-within (alat +ℤ blat) h))
    ∙ ap (λ (x : Float). le (nought false ⊕ x) limit) (square-size (alat -ℤ blat))
    ∙ reach-is (nat_abs (alat -ℤ blat)) g
