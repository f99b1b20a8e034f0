-- Positions: two f64 degrees, or none. Usable are those that are finite and at most 90 and 180 in size. Microdegrees are the f64 product
-- with 1,000,000, cut toward zero. RULES 3.4, 7.2.
use Rattle.std.specs.Prelude.{Bool, true, false, ◌&&◌, ℤ, Float, None, Option, Some}
use Rattle.std.specs.Float.{nan, inf, fin}
use Rattle.std.specs.Float.Ieee.{le, to_signed}
use Rattle.std.specs.Float.Ieee.Scale.{finite}
use Rattle.place.specs.Numbers.{n90, n180, n1_m, ◌⊗◌}
use Rattle.place.specs.declared.Degrees.{Degrees}
use Rattle.place.specs.declared.Micro.{Micro}

-- Rust's `abs`
abbrev pub absolute : Float → Float
absolute nan = nan
absolute (inf s) = inf false
absolute (fin s m e) = fin false m e

-- x is finite, and at most top in size
unfoldable pub in_reach : Float → Float → Bool
in_reach top x = finite x && le (absolute x) top

unfoldable pub usable_degrees : Float → Float → Bool
unfolding in_reach
usable_degrees lat lon = in_reach n90 lat && in_reach n180 lon

abbrev pub is_usable : Option Degrees → Bool
is_usable (Some d) = usable_degrees d.latitude d.longitude
is_usable None = false

-- Rust's `(x * 1_000_000.0) as i32`: cut toward zero and to the ends of the range, and 0 for NaN
unfoldable pub micro : Float → ℤ
micro x = to_signed 31 (x ⊗ n1_m)

abbrev pub at_if : Bool → ℤ → ℤ → Option Micro
at_if true lat lon = Some (record { lat = lat; lon = lon })
at_if false lat lon = None

-- the microdegrees of a usable position
unfoldable pub micro_of : Option Degrees → Option Micro
unfolding usable_degrees micro
micro_of (Some d) = at_if (usable_degrees d.latitude d.longitude) (micro d.latitude) (micro d.longitude)
micro_of None = None
