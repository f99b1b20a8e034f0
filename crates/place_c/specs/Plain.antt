-- Keys and positions of plain numbers, and the numbers of microdegrees.
use Rattle.std.specs.Prelude.{cond, ℕ, Bool, ℤ, pos, Float, None, Option, Some}
use Rattle.place.specs.declared.PlaceKey.{PlaceKey}
use Rattle.place.specs.declared.Degrees.{Degrees}
use Rattle.place.specs.declared.Micro.{Micro}

abbrev pub key_with : ℕ → ℕ → ℤ → ℤ → PlaceKey
key_with tag hash lat lon = record { tag = tag; hash = hash; lat = lat; lon = lon }

abbrev pub position_with : Bool → Float → Float → Option Degrees
position_with located lat lon = cond located (Some (record { latitude = lat; longitude = lon })) None

abbrev pub lat_of : Option Micro → ℤ
lat_of (Some m) = m.lat
lat_of None = pos 0

abbrev pub lon_of : Option Micro → ℤ
lon_of (Some m) = m.lon
lon_of None = pos 0
