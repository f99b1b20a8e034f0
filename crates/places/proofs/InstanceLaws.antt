-- The chain of three stops, by their keys and the place test at equal longitude.
use Prim.Native.Nat.{ℕ, zero, suc, ◌<◌}
use mathlib.Core.Path.{◌≡◌, refl, ap₂, ◌∙◌}
use mathlib.Core.Bool.{true}
use mathlib.Core.List.{[], ◌∷◌}
use native.Mathlib.Omega.{arith}
use lib.Dec.{leb, lit≤}
use lib.Ieee.{of_bits, le, to_signed, mul, round}
use lib.IntN.{pos, nat_abs, ◌-ℤ◌}
use Rattle.key.specs.Hash.{key_of}
use Rattle.key.specs.Utf8.{encoded_of, point_of, is_latin}
use Rattle.key.specs.Name.{is_space, is_control, is_capital, lower_of, is_bad, points_key, name_key}
use Rattle.place.specs.declared.PlaceKey.{PlaceKey}
use Rattle.place.specs.Keys.{tag_n}
use Rattle.place.specs.Near.{same_keys}
use Rattle.place.specs.Positions.{in_reach, usable_degrees, micro, micro_of}
use Rattle.place.specs.Promises.{LatFits}
use Rattle.place.proofs.SameKeys.{same-meridian}
use Rattle.texts.specs.Texts.{held}
use Rattle.stops.specs.Sound.{stop_at}
use Rattle.places.specs.Keys.{stop_key, key_at}
use Rattle.places.specs.Places.{has_key, same_place, id_less}
use Rattle.places.specs.Instances.{chain, ChainInstance}
use Rattle.places.proofs.Claims.{chain-not-merged}

abbrev at : ℕ → PlaceKey
at lat = record { tag = tag_n; hash = key_of (120 ∷ []); lat = pos lat; lon = pos 0 }

key-a : key_at chain 0 ≡ at 0
unfolding held key_at stop_key stop_at name_key points_key encoded_of point_of is_bad is_latin is_control is_space is_capital lower_of
    micro_of usable_degrees in_reach micro of_bits le to_signed mul round
key-a = refl

key-b : key_at chain 1 ≡ at 1000
unfolding held key_at stop_key stop_at name_key points_key encoded_of point_of is_bad is_latin is_control is_space is_capital lower_of
    micro_of usable_degrees in_reach micro of_bits le to_signed mul round
key-b = refl

key-c : key_at chain 2 ≡ at 2000
unfolding held key_at stop_key stop_at name_key points_key encoded_of point_of is_bad is_latin is_control is_space is_capital lower_of
    micro_of usable_degrees in_reach micro of_bits le to_signed mul round
key-c = refl

by-keys : (i j m n : ℕ) → key_at chain i ≡ at m → key_at chain j ≡ at n → LatFits (at m) → LatFits (at n)
    → same_place chain i j ≡ leb (nat_abs (pos m -ℤ pos n)) 1124
unfolding same_place
by-keys i j m n e f p q = ap₂ same_keys e f ∙ same-meridian (at m) (at n) p q refl refl refl refl

keyed : (k : ℕ) → k < 3 → has_key chain k ≡ true
unfolding has_key stop_at
keyed zero h = refl
keyed (suc zero) h = refl
keyed (suc (suc zero)) h = refl
keyed (suc (suc (suc k))) h = absurd (omega arith)

pub chain-instance : ChainInstance
unfolding held id_less stop_at
chain-instance =
    chain-not-merged _ _ _ keyed refl refl (by-keys 1 0 1000 0 key-b key-a (lit≤ tt) (lit≤ tt))
    (by-keys 2 1 2000 1000 key-c key-b (lit≤ tt) (lit≤ tt)) (by-keys 2 0 2000 0 key-c key-a (lit≤ tt) (lit≤ tt))
