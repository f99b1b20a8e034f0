-- What is proved of the place test, of place keys and of microdegrees, for every value of their types.
use Rattle.std.specs.Prelude.{◌≡◌, ℕ, ◌^◌, ◌<◌, ◌≤◌, Bool, true, false, List, ℤ, ◌+ℤ◌, ◌-ℤ◌, ◌≢◌, nat_le, unsigned_abs, Option, Some}
use Rattle.place.specs.Keys.{tag_n, no_place, place_key}
use Rattle.place.specs.Near.{same_keys}
use Rattle.place.specs.Positions.{micro_of}
use Rattle.place.specs.declared.PlaceKey.{PlaceKey}
use Rattle.place.specs.declared.Degrees.{Degrees}

-- the latitude is an i32 (or 2 to the 31st)
abbrev pub LatFits : PlaceKey → Type 0
LatFits a = unsigned_abs a.lat ≤ 2 ^ 31

-- "It is proved symmetric": for all keys
abbrev pub Symmetric : Type 0
Symmetric = (a b : PlaceKey) → same_keys a b ≡ same_keys b a

-- every key is one place with itself
abbrev pub Reflexive : Type 0
Reflexive = (a : PlaceKey) → LatFits a → same_keys a a ≡ true

-- "For positioned keys of one name hash at equal longitude it says yes exactly for latitudes at most 1124 microdegrees apart":
-- for every two i32 latitudes, and every longitude
abbrev pub SameMeridian : Type 0
SameMeridian =
    (a b : PlaceKey) → LatFits a → LatFits b → a.tag ≡ tag_n → b.tag ≡ tag_n → a.hash ≡ b.hash → a.lon ≡ b.lon
    → same_keys a b ≡ nat_le (unsigned_abs (a.lat -ℤ b.lat)) 1124

-- keys of different tags are never one place
abbrev pub TagsApart : Type 0
TagsApart = (a b : PlaceKey) → (a.tag ≢ b.tag) → same_keys a b ≡ false

-- nor are keys of different hashes
abbrev pub HashesApart : Type 0
HashesApart = (a b : PlaceKey) → (a.hash ≢ b.hash) → same_keys a b ≡ false

-- of parents, and of ids, equal hashes are enough
abbrev pub SameHash : Type 0
SameHash = (a b : PlaceKey) → a.tag ≡ b.tag → (a.tag ≢ tag_n) → a.hash ≡ b.hash → same_keys a b ≡ true

-- microdegrees of a usable position are within ±90,000,000 and ±180,000,000
abbrev pub InRange : Type 0
InRange = (p : Option Degrees) (lat lon : ℤ) → micro_of p ≡ Some (record { lat = lat; lon = lon })
    → (unsigned_abs lat ≤ 90000000) × (unsigned_abs lon ≤ 180000000)

-- so the Rust's own i32 sums can't overflow: the sum and the difference of the latitudes, and the difference of the longitudes
abbrev pub SumsFit : Type 0
SumsFit =
    (p q : Option Degrees) (lat lon lat' lon' : ℤ) → micro_of p ≡ Some (record { lat = lat; lon = lon })
    → micro_of q ≡ Some (record { lat = lat'; lon = lon' })
    → (unsigned_abs (lat +ℤ lat') < 2 ^ 31) × (unsigned_abs (lat -ℤ lat') < 2 ^ 31) × (unsigned_abs (lon -ℤ lon') < 2 ^ 31)

-- a place key is never the key of a stop that has none
abbrev pub Placed : Type 0
Placed = (has : Bool) (parent : List ℕ) (p : Option Degrees) (named : Bool) (name id : List ℕ)
    → (place_key has parent p named name id).tag ≢ no_place.tag

-- and its microdegrees are in that range, so the test is reflexive for it
abbrev pub KeyInRange : Type 0
KeyInRange =
    (has : Bool) (parent : List ℕ) (p : Option Degrees) (named : Bool) (name id : List ℕ)
    → (unsigned_abs (place_key has parent p named name id).lat ≤ 90000000)
    × (unsigned_abs (place_key has parent p named name id).lon ≤ 180000000)
