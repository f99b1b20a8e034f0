-- Microdegrees of a usable position are within ±90,000,000 and ±180,000,000, so Rust's sums of two of them fit an i32.
use Rattle.std.specs.Prelude.{None, Option, Some}
use Rattle.std.proofs.Common.{◌≡◌, ℕ, ◌+◌, ◌*◌, ◌^◌, ◌<◌, ◌≤◌, Bool, true, false, ◌&&◌, T, ℤ, pos, ◌+ℤ◌, ◌-ℤ◌, neg_ℤ, nat_abs, sym, subst}
use Rattle.std.proofs.Common.{le_trans, le_of_eq, mul-one, arith, lit<, lit≤}
use lib.Ieee.{Float, nan, inf, fin, up, down, of_bits, le}
use Rattle.laws.specs.Floats.{AtMost}
use Rattle.laws.proofs.AtMost.{lt-or-eq, whole-stays, mul-at-most, cut-size}
use Rattle.laws.proofs.Ints.{nat_abs-+ℤ, nat_abs-negℤ}
use Rattle.place.specs.declared.Degrees.{Degrees}
use Rattle.place.specs.declared.Micro.{Micro}
use Rattle.place.specs.Numbers.{n90, n180, n1_m, ◌⊗◌}
use Rattle.place.specs.Positions.{in_reach, usable_degrees, micro, at_if, micro_of}
use Rattle.place.specs.Promises.{InRange, SumsFit}

reach-at-most : (n k : ℕ) (x : Float) → T (in_reach (fin false n (pos k)) x) → AtMost x (n * 2 ^ k)
unfolding in_reach le
reach-at-most n k nan t = t
reach-at-most n k (inf s) t = t
reach-at-most n k (fin s m e) t = le_trans (le_of_eq (sym (mul-one (m * up e)))) (lt-or-eq (m * up e * 1) (n * 2 ^ k * down e) t)

million : AtMost n1_m 1000000
unfolding of_bits
million = lit≤ tt

-- a product with a million, cut
micro-size : (x : Float) (b : ℕ) → b * 1000000 < 2 ^ 53 → AtMost x b → nat_abs (micro x) ≤ b * 1000000
unfolding micro
micro-size x b h w = cut-size (x ⊗ n1_m) (b * 1000000) (mul-at-most x n1_m b 1000000 (whole-stays (b * 1000000) h) w million)

lat-size : (x : Float) → T (in_reach n90 x) → nat_abs (micro x) ≤ 90000000
unfolding of_bits
lat-size x t = micro-size x 90 (lit< tt) (reach-at-most 45 1 x t)

lon-size : (x : Float) → T (in_reach n180 x) → nat_abs (micro x) ≤ 180000000
unfolding of_bits
lon-size x t = micro-size x 180 (lit< tt) (reach-at-most 45 2 x t)

abbrev Sized : Option Micro → Type 0
Sized (Some m) = (nat_abs m.lat ≤ 90000000) × (nat_abs m.lon ≤ 180000000)
Sized None = Unit {0}

sized : (p : Option Degrees) → Sized (micro_of p)
unfolding micro_of usable_degrees
sized (Some d) = go (in_reach n90 d.latitude) (in_reach n180 d.longitude) (lat-size d.latitude) (lon-size d.longitude)
  where
    go : (s t : Bool) → (T s → nat_abs (micro d.latitude) ≤ 90000000) → (T t → nat_abs (micro d.longitude) ≤ 180000000)
        → Sized (at_if (s && t) (micro d.latitude) (micro d.longitude))
    go true true f g = (f tt, g tt)
    go true false f g = tt
    go false t f g = tt
sized None = tt

pub in-range-at : (p : Option Degrees) (m : Micro) → micro_of p ≡ Some m → (nat_abs m.lat ≤ 90000000) × (nat_abs m.lon ≤ 180000000)
in-range-at p m e = subst Sized e (sized p)

pub in-range : InRange
in-range p lat lon e = in-range-at p (record { lat = lat; lon = lon }) e

-- ---- sums
sum-size : (a b : ℤ) (k : ℕ) → nat_abs a ≤ k → nat_abs b ≤ k → nat_abs (a +ℤ b) ≤ k + k
sum-size a b k p q = go (nat_abs (a +ℤ b)) (nat_abs a) (nat_abs b) (nat_abs-+ℤ a b) p q
  where
    go : (n x y : ℕ) → n ≤ x + y → x ≤ k → y ≤ k → n ≤ k + k
    go n x y h p q = omega arith

gap-size : (a b : ℤ) (k : ℕ) → nat_abs a ≤ k → nat_abs b ≤ k → nat_abs (a -ℤ b) ≤ k + k
gap-size a b k p q = sum-size a (neg_ℤ b) k p (le_trans (le_of_eq (nat_abs-negℤ b)) q)

below : (n k : ℕ) → n ≤ k → k < 2 ^ 31 → n < 2 ^ 31
below n k h b = omega arith

pub sums-fit : SumsFit
sums-fit p q lat lon lat' lon' e f =
    let a = in-range p lat lon e in
    let b = in-range q lat' lon' f in (
      below _ 180000000 (sum-size lat lat' 90000000 a.0 b.0) (lit< tt),
      below _ 180000000 (gap-size lat lat' 90000000 a.0 b.0) (lit< tt),
      below _ 360000000 (gap-size lon lon' 180000000 a.1 b.1) (lit< tt),
    )
