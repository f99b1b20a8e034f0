-- What holds of every place key: its tag is not that of a stop without a place, and its microdegrees are in range.
use Rattle.key.specs.declared.NameError.{NameError}
use Rattle.std.specs.Prelude.{None, Option, Some, Err, Ok, Result}
use Rattle.std.proofs.Common.{◌≡◌, ℕ, ◌≤◌, Bool, true, false, List, nat_abs, refl, arith, lit≤}
use Rattle.place.specs.declared.PlaceKey.{PlaceKey}
use Rattle.place.specs.declared.Degrees.{Degrees}
use Rattle.place.specs.declared.Micro.{Micro}
use Rattle.place.specs.Positions.{micro_of}
use Rattle.place.specs.Keys.{tag_n, parent_key, id_key, named_key, located_key, shown_key, place_key}
use Rattle.place.specs.Promises.{Placed, KeyInRange}
use Rattle.place.proofs.Range.{in-range-at}

-- a property of a key that every place key has: it holds of every hash with no position, and of a name at the position's microdegrees
every :
    (P : PlaceKey → Type 0) (p : Option Degrees)
    → ((parent : List ℕ) → P (parent_key parent)) → ((id : List ℕ) → P (id_key id))
    → ((h : ℕ) (m : Micro) → micro_of p ≡ Some m → P (record { tag = tag_n; hash = h; lat = m.lat; lon = m.lon }))
    → (has : Bool) (parent : List ℕ) (named : Bool) (name id : List ℕ) → P (place_key has parent p named name id)
every P p f g h true parent named name id = f parent
every P p f g h false parent named name id = at-micro (micro_of p) refl
  where
    at_name : (k : Result ℕ NameError) (m : Micro) → micro_of p ≡ Some m → P (named_key k m.lat m.lon id)
    at_name (Ok x) m e = h x m e
    at_name (Err x) m e = g id

    at-micro : (m : Option Micro) → micro_of p ≡ m → P (located_key m (shown_key named name id) id)
    at-micro (Some m) e = at_name (shown_key named name id) m e
    at-micro None e = g id

pub placed : Placed
unfolding parent_key id_key
placed has parent p named name id =
    every (λ (k : PlaceKey). k.tag ≡ 0 → ⊥) p (λ x e. omega arith) (λ x e. omega arith) (λ h m q e. omega arith) has parent named name id

pub key-in-range : KeyInRange
unfolding parent_key id_key
key-in-range has parent p named name id =
    every (λ (k : PlaceKey). (nat_abs k.lat ≤ 90000000) × (nat_abs k.lon ≤ 180000000)) p
    (λ x. (lit≤ tt, lit≤ tt))
    (λ x. (lit≤ tt, lit≤ tt))
    (λ h m e. in-range-at p m e)
    has parent named name id
