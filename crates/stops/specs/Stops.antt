-- Stops of a load, numbered from 0 in the order taken, and the stop with an id.
use Rattle.std.specs.Prelude.{ℕ, ◌+◌, List, [], ◌∷◌, Bool, true, false, cond, ◌&&◌, eqb, None, Option, Some, option_map}
use Rattle.texts.specs.Texts.{bytes_of}
use Rattle.stops.specs.declared.Stop.{Stop}
use Rattle.stops.specs.Texts.{same_bytes_of}

abbrev pub id_of : Stop → List ℕ
id_of s = bytes_of s.id

abbrev pub name_of : Stop → Option (List ℕ)
name_of s = option_map bytes_of s.name

-- of type 1, if a station is asked for
abbrev pub type_fits : Bool → ℕ → Bool
type_fits true t = eqb t 1
type_fits false t = true

-- the stop has the id, and is a station if that is asked
abbrev pub is_it : Bool → List ℕ → Stop → Bool
is_it station id s = type_fits station s.location_type && same_bytes_of (id_of s) id

-- the number, counted from k, of the first stop of which p holds
abbrev pub find_stop : (Stop → Bool) → List Stop → ℕ → Option ℕ
find_stop p [] k = None
find_stop p (s ∷ ss) k = cond (p s) (Some k) (find_stop p ss (k + 1))
