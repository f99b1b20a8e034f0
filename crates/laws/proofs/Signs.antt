-- The sign goes through rounding and through a product.
use mathlib.Core.Path.{◌≡◌, refl, sym, ap, ◌∙◌}
use mathlib.Core.Bool.{Bool, true, false, not, cond}
use Prim.Native.Nat.{ℕ, zero, suc, ◌+◌, ◌*◌, ◌^◌}
use lib.Dec.{ltb, eqb}
use lib.IntN.{pos, negsuc}
use lib.Ieee.{Float, nan, inf, fin, Format, prec, emax, low, up, down, unlike, odd, units, round, neg, mul, of_int}
use lib.Ieee.Fits.{round_is}

pub neg-neg : (x : Float) → neg (neg x) ≡ x
unfolding neg
neg-neg nan = refl
neg-neg (inf true) = refl
neg-neg (inf false) = refl
neg-neg (fin true m e) = refl
neg-neg (fin false m e) = refl

odd-neg : (d q k l : ℕ) → odd d true q k l ≡ neg (odd d false q k l)
unfolding odd neg
odd-neg d zero k l = refl
odd-neg d (suc q) k l = refl

units-neg : (f : Format) (q k : ℕ) → units f true q k ≡ neg (units f false q k)
unfolding units neg
units-neg f q k = go (ltb (q * 2 ^ k) (2 ^ (low f + suc (emax f))))
  where
    go : (b : Bool)
        → cond b (odd (suc (prec f)) true q k (low f)) (inf true) ≡ neg (cond b (odd (suc (prec f)) false q k (low f)) (inf false))
    go true = odd-neg (suc (prec f)) q k (low f)
    go false = refl

pub round-neg : (f : Format) (a c : ℕ) → round f true a c ≡ neg (round f false a c)
round-neg f a c = round_is f true a c ∙ units-neg f _ _ ∙ ap neg (sym (round_is f false a c))

pub round-not : (f : Format) (s : Bool) (a c : ℕ) → round f (not s) a c ≡ neg (round f s a c)
round-not f false a c = round-neg f a c
round-not f true a c = sym (neg-neg (round f false a c)) ∙ ap neg (sym (round-neg f a c))

inf-or-nan : (b s : Bool) → cond b nan (inf (not s)) ≡ neg (cond b nan (inf s))
unfolding neg
inf-or-nan true s = refl
inf-or-nan false s = refl

unlike-not : (s t : Bool) → unlike (not s) t ≡ not (unlike s t)
unlike-not true true = refl
unlike-not true false = refl
unlike-not false true = refl
unlike-not false false = refl

pub mul-neg : (f : Format) (x y : Float) → mul f (neg x) y ≡ neg (mul f x y)
unfolding mul neg
mul-neg f nan y = refl
mul-neg f (inf s) nan = refl
mul-neg f (inf s) (inf t) = ap inf (unlike-not s t)
mul-neg f (inf s) (fin t n d) = ap (λ (b : Bool). cond (eqb n 0) nan (inf b)) (unlike-not s t) ∙ inf-or-nan (eqb n 0) (unlike s t)
mul-neg f (fin s m e) nan = refl
mul-neg f (fin s m e) (inf t) = ap (λ (b : Bool). cond (eqb m 0) nan (inf b)) (unlike-not s t) ∙ inf-or-nan (eqb m 0) (unlike s t)
mul-neg f (fin s m e) (fin t n d) =
    ap (λ (b : Bool). round f b (m * up e * (n * up d)) (down e * down d)) (unlike-not s t)
    ∙ round-not f (unlike s t) (m * up e * (n * up d)) (down e * down d)

-- a square has no sign
pub square-neg : (f : Format) (x : Float) → mul f (neg x) (neg x) ≡ mul f x x
unfolding mul neg
square-neg f nan = refl
square-neg f (inf true) = refl
square-neg f (inf false) = refl
square-neg f (fin true m e) = refl
square-neg f (fin false m e) = refl

-- a number that is not 0
pub of_int-negsuc : (f : Format) (n : ℕ) → of_int f (negsuc n) ≡ neg (of_int f (pos (suc n)))
unfolding of_int
of_int-negsuc f n = round-neg f (suc n) 1
