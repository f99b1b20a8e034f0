-- The place key of a stop of a load. "Only stops of type 0 have a place key."
use Rattle.std.specs.Prelude.{cond, List, ℕ, eqb, Option, option_map, is_some}
use Rattle.place.specs.declared.PlaceKey.{PlaceKey}
use Rattle.place.specs.Keys.{place_key, no_place, text_of}
use Rattle.stops.specs.declared.Stop.{Stop}
use Rattle.stops.specs.Stops.{id_of, name_of}
use Rattle.stops.specs.Sound.{stop_at}

-- the id of a parent. One that is no stop of the list, which no sound load has, counts as one with an empty id.
abbrev pub parent_id : List Stop → Option ℕ → Option (List ℕ)
parent_id ss parent = option_map (λ p. id_of (stop_at ss p)) parent

-- of a stop whose parent, if it has one, has the id `parent`
unfoldable pub stop_key : Stop → Option (List ℕ) → PlaceKey
stop_key s parent =
    cond (eqb s.location_type 0)
    (place_key (is_some parent) (text_of parent) s.degrees (is_some (name_of s)) (text_of (name_of s)) (id_of s)) no_place

-- of the k-th stop
unfoldable pub key_at : List Stop → ℕ → PlaceKey
key_at ss k = stop_key (stop_at ss k) (parent_id ss (stop_at ss k).parent)
