-- Whether two keys match, operation for operation in f64. RULES 7.4.
use Rattle.std.specs.Prelude.{Bool, true, false, cond, ◌&&◌, ℤ, pos, ◌+ℤ◌, ◌-ℤ◌, ◌==◌, int_lt, unsigned_abs, Float}
use Rattle.std.specs.Float.{binary64}
use Rattle.std.specs.Float.Ieee.{of_int, neg, le}
use Rattle.place.specs.Numbers.{half, one, pi, n24, n125, n720, n40320, n111195, n1_m, n3628800, n360_m, ◌⊕◌, ◌⊖◌, ◌⊗◌, ◌⊘◌}
use Rattle.place.specs.Keys.{tag_n}
use Rattle.place.specs.declared.PlaceKey.{PlaceKey}

-- the shorter way round, of a difference of two longitudes in microdegrees
unfoldable pub around : ℤ → ℤ
around d = cond (int_lt (pos 180000000) (pos (unsigned_abs d))) (pos 360000000 -ℤ pos (unsigned_abs d)) (pos (unsigned_abs d))

-- the same of two longitudes
unfoldable pub turn : ℤ → ℤ → ℤ
unfolding around
turn a b = around (a -ℤ b)

-- half of x microdegrees, in radians
unfoldable pub angle : Float → Float
angle x = x ⊗ pi ⊘ n360_m

unfoldable pub square : Float → Float
square x = x ⊗ x

-- the cosine of an angle with the square x, by six terms of its series
unfoldable pub series : Float → Float
series x = one ⊕ x ⊗ (neg half ⊕ x ⊗ (one ⊘ n24 ⊕ x ⊗ (neg one ⊘ n720 ⊕ x ⊗ (one ⊘ n40320 ⊖ x ⊘ n3628800))))

-- x microdegrees, in metres
unfoldable pub metres : Float → Float
metres x = x ⊗ (n111195 ⊘ n1_m)

-- at most 125 metres apart: of the sum of the latitudes, the way round between the longitudes and the difference of the latitudes
unfoldable pub close_at : Float → Float → Float → Bool
unfolding angle square series metres
close_at s x y = le (square (metres x ⊗ series (square (angle s))) ⊕ square (metres y)) (n125 ⊗ n125)

-- the same of two latitudes and longitudes in microdegrees
unfoldable pub close_by : ℤ → ℤ → ℤ → ℤ → Bool
unfolding close_at turn
close_by alat alon blat blon = close_at (of_int binary64 (alat +ℤ blat)) (of_int binary64 (turn alon blon)) (of_int binary64 (alat -ℤ blat))

-- equal tags and hashes, and for names at a position close by
unfoldable pub same_keys : PlaceKey → PlaceKey → Bool
unfolding close_by
same_keys a b =
    cond (a.tag == b.tag && a.hash == b.hash)
    (cond (a.tag == tag_n) (close_by a.lat a.lon b.lat b.lon) true)
    false
