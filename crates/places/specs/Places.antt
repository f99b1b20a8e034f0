-- "Keyed stops are placed in id byte order, each with the smallest-id representative that matches, else as its own."
use Rattle.std.specs.Prelude.{Bool, cond, List, [], ◌∷◌, ◌++◌, ℕ, eqb, length, set, replicate, None, Option, Some}
use Rattle.laws.specs.Lists.{foldl, span}
use Rattle.laws.specs.Sort.{sort}
use Rattle.laws.specs.Order.{less_bytes}
use Rattle.place.specs.Near.{same_keys}
use Rattle.stops.specs.declared.Stop.{Stop}
use Rattle.stops.specs.Stops.{id_of}
use Rattle.stops.specs.Sound.{stop_at}
use Rattle.places.specs.Keys.{key_at}
use Rattle.stops.specs.Sizes.{stop_room, no_stop}

-- ---- of stops

unfoldable pub has_key : List Stop → ℕ → Bool
has_key ss k = eqb (stop_at ss k).location_type 0

unfoldable pub same_place : List Stop → ℕ → ℕ → Bool
same_place ss i j = same_keys (key_at ss i) (key_at ss j)

unfoldable pub id_less : List Stop → ℕ → ℕ → Bool
id_less ss i j = less_bytes (id_of (stop_at ss i)) (id_of (stop_at ss j))

-- ---- of numbers: `same` says which two are one place, `keyed` which have a key

-- the representatives so far, in the order of ids, and the place of each stop
pub record Groups : Type 0 where
  pub reps : List ℕ
  pub places : List ℕ

-- the first that matches
abbrev pub first_match : (ℕ → Bool) → List ℕ → Option ℕ
first_match p [] = None
first_match p (r ∷ rs) = cond (p r) (Some r) (first_match p rs)

abbrev pub placed : Groups → ℕ → Option ℕ → Groups
placed g i (Some r) = record { reps = g.reps; places = set g.places i r }
placed g i None = record { reps = g.reps ++ i ∷ []; places = set g.places i i }

abbrev pub place : (ℕ → ℕ → Bool) → (ℕ → Bool) → Groups → ℕ → Groups
place same keyed g i = cond (keyed i) (placed g i (first_match (same i) g.reps)) g

-- 65535 is no place
abbrev pub no_groups : Groups
no_groups = record { reps = []; places = replicate stop_room no_stop }

-- ---- the places of stops

unfoldable pub id_order : List Stop → List ℕ
id_order ss = sort (id_less ss) (span 0 (length ss))

unfoldable pub groups_of : List Stop → Groups
groups_of ss = foldl (place (same_place ss) (has_key ss)) no_groups (id_order ss)

-- 128 numbers: the number of each stop's representative, 65535 for a stop without a key and past the last
unfoldable pub places_of : List Stop → List ℕ
places_of ss = (groups_of ss).places
