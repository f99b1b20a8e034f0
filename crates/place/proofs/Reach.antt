-- -top ≤ x ≤ top is that x is finite and at most top in size.
use Rattle.std.proofs.Common.{◌≡◌, ℕ, ◌+◌, ◌*◌, ◌<◌, Bool, true, false, ◌&&◌, ◌||◌, T, eqb, ltb, refl, ap, ◌∙◌, mul-pos, arith, ltb→lt}
use Rattle.std.proofs.Common.{lt-ltb}
use lib.Ieee.{Float, nan, inf, fin, up, down, neg, le}
use lib.Ieee.Fits.{up_pos, down_pos}
use lib.Ieee.Positive.{positive}
use Rattle.laws.proofs.Tests.{eqb-sym}
use Rattle.place.specs.Positions.{in_reach}

first : (a b : ℕ) → 0 < a → 0 < a + b
first a b h = omega arith

second : (a b : ℕ) → 0 < b → 0 < a + b
second a b h = omega arith

pub reach-test : (x top : Float) → T (positive top) → le (neg top) x && le x top ≡ in_reach top x
unfolding le neg in_reach
reach-test x nan p = absurd p
reach-test x (inf s) p = absurd p
reach-test x (fin true n d) p = absurd p
reach-test nan (fin false n d) p = refl
reach-test (inf true) (fin false n d) p = refl
reach-test (inf false) (fin false n d) p = refl
reach-test (fin false m e) (fin false n d) p =
    let a = n * up d * down e in
    let b = m * up e * down d in
    ap (λ (t : Bool). (t || (eqb a b && (false || eqb a 0))) && le (fin false m e) (fin false n d))
    (lt-ltb 0 (a + b) (first a b (mul-pos (mul-pos (ltb→lt 0 n p) (up_pos d)) (down_pos e))))
reach-test (fin true m e) (fin false n d) p =
    let a = n * up d * down e in
    let b = m * up e * down d in
    ap (λ (t : Bool). (ltb b a || (eqb a b && true)) && (t || (eqb b a && (false || eqb b 0))))
    (lt-ltb 0 (b + a) (second b a (mul-pos (mul-pos (ltb→lt 0 n p) (up_pos d)) (down_pos e))))
    ∙ and-true (ltb b a || (eqb a b && true))
    ∙ ap (λ (t : Bool). ltb b a || (t && true)) (eqb-sym a b)
  where
    and-true : (x : Bool) → x && true ≡ x
    and-true true = refl
    and-true false = refl
