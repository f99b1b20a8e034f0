-- The series is finite at every sum of two latitudes.
use Rattle.std.proofs.Common.{◌^◌, ◌≤◌, ℤ, nat_abs, lit≤}
use lib.Ieee.{Float, binary64, of_bits, of_int, div, neg}
use Rattle.place.specs.Numbers.{half, one, pi, n24, n720, n40320, n3628800, n360_m, ◌⊖◌, ◌⊘◌}
use Rattle.place.specs.Near.{angle, square, series}
use Rattle.laws.specs.Floats.{Within}
use Rattle.laws.proofs.Within.{mul-within, add-within, sub_within, div-within, of_int-within}

-- the constants, computed
c40320 : Within (one ⊘ n40320) 68
unfolding of_bits div
c40320 = lit≤ tt

c720 : Within (neg one ⊘ n720) 137
unfolding of_bits div neg
c720 = lit≤ tt

c24 : Within (one ⊘ n24) 206
unfolding of_bits div
c24 = lit≤ tt

c2 : Within (neg half) 275
unfolding of_bits neg
c2 = lit≤ tt

c1 : Within one 344
unfolding of_bits
c1 = lit≤ tt

cpi : Within pi 2
unfolding of_bits
cpi = lit≤ tt

pub series-within : (x : Float) → Within x 68 → Within (series x) 345
unfolding series
series-within x w =
    let t5 =
    mul-within x (one ⊘ n40320 ⊖ x ⊘ n3628800) 68 69 (lit≤ tt) w
    (sub_within (one ⊘ n40320) (x ⊘ n3628800) 68 (lit≤ tt) c40320 (div-within x n3628800 68 (lit≤ tt) w (unfold of_bits in tt))) in
    let t4 = mul-within x _ 68 138 (lit≤ tt) w (add-within (neg one ⊘ n720) _ 137 (lit≤ tt) c720 t5) in
    let t3 = mul-within x _ 68 207 (lit≤ tt) w (add-within (one ⊘ n24) _ 206 (lit≤ tt) c24 t4) in
    let t2 = mul-within x _ 68 276 (lit≤ tt) w (add-within (neg half) _ 275 (lit≤ tt) c2 t3) in
    add-within one _ 344 (lit≤ tt) c1 t2

pub cosine-within : (s : ℤ) → nat_abs s ≤ 2 ^ 32 → Within (series (square (angle (of_int binary64 s)))) 345
unfolding square angle
cosine-within s h =
    let r : Within (angle (of_int binary64 s)) 34 =
    div-within _ n360_m 34 (lit≤ tt) (mul-within (of_int binary64 s) pi 32 2 (lit≤ tt) (of_int-within s 32 (lit≤ tt) h) cpi)
    (unfold of_bits in tt) in
    series-within _ (mul-within _ _ 34 34 (lit≤ tt) r r)
