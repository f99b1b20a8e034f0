-- Which stops are of one place, as a relation over the stops handed in and taken: their ids, names, parents' ids and positions, and no
-- stored record. Cited are the formulas of RULES 7: the hash, a name folded, microdegrees, and the test of two keys.
use Rattle.std.specs.Prelude.{◌≡◌, ◌⊎◌, true, List, [], ◌∷◌, ℕ, ◌<◌, pos, None, Some}
use Rattle.key.specs.Hash.{key_of}
use Rattle.key.specs.Utf8.{utf8, points}
use Rattle.key.specs.Name.{normalized}
use Rattle.place.specs.declared.Degrees.{Degrees}
use Rattle.place.specs.declared.PlaceKey.{PlaceKey}
use Rattle.place.specs.Keys.{tag_p, tag_n, tag_i}
use Rattle.place.specs.Near.{same_keys}
use Rattle.place.specs.Positions.{usable_degrees, micro}
use Rattle.comparison.specs.Taken.{StopGiven}
use Rattle.comparison.specs.Admitted.{Nth}

-- ---- keys

-- a usable position is given, at d
pub record Located (g : StopGiven) (d : Degrees) : Type 0 where
  pub given : g.input.degrees ≡ Some d
  pub usable : usable_degrees d.latitude d.longitude ≡ true

-- the text that is folded and hashed: the name, or the id where there is none
abbrev pub Called : StopGiven → List ℕ → Type 0
Called g t = (g.name ≡ Some t) ⊎ ((g.name ≡ None) × (t ≡ g.id))

-- the key of a stop: of its parent's id; else, with a usable position, of its name with the position; else of its id (RULES 7.1)
pub data Key (g : StopGiven) : PlaceKey → Type 0 where
  by_parent : {p : List ℕ} → g.parent ≡ Some p → Key g (record { tag = tag_p; hash = key_of p; lat = pos 0; lon = pos 0 })
  by_name : {t : List ℕ} {d : Degrees} → g.parent ≡ None → Located g d → Called g t
      → Key g (record { tag = tag_n; hash = key_of (utf8 (normalized (points t))); lat = micro d.latitude; lon = micro d.longitude })
  by_id : g.parent ≡ None → ((d : Degrees) → Located g d → ⊥) → Key g (record { tag = tag_i; hash = key_of g.id; lat = pos 0; lon = pos 0 })

-- a is the key of the k-th stop, which is of type 0; stations have none
pub record Keyed (ss : List StopGiven) (k : ℕ) (a : PlaceKey) : Type 0 where
  pub given : StopGiven
  pub at : Nth ss k given
  pub type_zero : given.input.location_type ≡ 0
  pub key : Key given a

-- the keys of the j-th and the k-th stop match (RULES 7.4)
pub record Matches (ss : List StopGiven) (j k : ℕ) : Type 0 where
  pub key : PlaceKey
  pub key' : PlaceKey
  pub keyed : Keyed ss j key
  pub keyed' : Keyed ss k key'
  pub same : same_keys key key' ≡ true

-- ---- the order

-- byte order: the first byte that differs decides, and a beginning is before the whole
abbrev pub BytesBefore : List ℕ → List ℕ → Type 0
BytesBefore s [] = ⊥
BytesBefore [] (b ∷ t) = Unit {0}
BytesBefore (a ∷ s) (b ∷ t) = (a < b) ⊎ ((a ≡ b) × BytesBefore s t)

-- the id of the j-th stop is before that of the k-th
pub record IdBefore (ss : List StopGiven) (j k : ℕ) : Type 0 where
  pub fore : StopGiven
  pub rear : StopGiven
  pub at_fore : Nth ss j fore
  pub at_rear : Nth ss k rear
  pub before : BytesBefore fore.id rear.id

-- ---- places: `place` gives each stop with a key its representative

-- r is a representative, placed before k, and their keys match
pub record Found (ss : List StopGiven) (place : ℕ → ℕ) (k r : ℕ) : Type 0 where
  pub earlier : IdBefore ss r k
  pub own : place r ≡ r
  pub matches : Matches ss k r

-- the k-th stop joins the representative with the smallest id of those found, or without one is its own (RULES 7.5)
pub data Placed (ss : List StopGiven) (place : ℕ → ℕ) (k : ℕ) : Type 0 where
  joins : Found ss place k (place k) → ((q : ℕ) → Found ss place k q → IdBefore ss q (place k) → ⊥) → Placed ss place k
  alone : ((q : ℕ) → Found ss place k q → ⊥) → place k ≡ k → Placed ss place k

-- by some function `place` that places each stop with a key so, x and y, which have keys, have one representative. There is only one such
-- function, on stops with keys, since ids differ
pub record OnePlace (ss : List StopGiven) (x y : ℕ) : Type 0 where
  pub place : ℕ → ℕ
  pub each : (k : ℕ) (a : PlaceKey) → Keyed ss k a → Placed ss place k
  pub key : PlaceKey
  pub key' : PlaceKey
  pub keyed : Keyed ss x key
  pub keyed' : Keyed ss y key'
  pub one : place x ≡ place y
