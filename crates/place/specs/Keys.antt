-- The place key, which only stops of type 0 have: the hash of the parent's id; else, with a usable position, the hash of the folded name
-- (of the id where there is none) and microdegrees; else the hash of the id. RULES 7.1.
use Rattle.key.specs.declared.NameError.{NameError}
use Rattle.std.specs.Prelude.{ℕ, Bool, true, false, List, [], ℤ, pos, None, Option, Some, Err, Ok, Result}
use Rattle.key.specs.Hash.{key_of}
use Rattle.key.specs.Name.{name_key}
use Rattle.place.specs.Positions.{micro_of}
use Rattle.place.specs.declared.Degrees.{Degrees}
use Rattle.place.specs.declared.Micro.{Micro}
use Rattle.place.specs.declared.PlaceKey.{PlaceKey}

-- the tags: the letters P, N and I
abbrev pub tag_p : ℕ
tag_p = 80

abbrev pub tag_n : ℕ
tag_n = 78

abbrev pub tag_i : ℕ
tag_i = 73

-- Rust's `NO_PLACE`, the key of a stop that has none
abbrev pub no_place : PlaceKey
no_place = record { tag = 0; hash = 0; lat = pos 0; lon = pos 0 }

unfoldable pub parent_key : List ℕ → PlaceKey
parent_key parent = record { tag = tag_p; hash = key_of parent; lat = pos 0; lon = pos 0 }

unfoldable pub id_key : List ℕ → PlaceKey
id_key id = record { tag = tag_i; hash = key_of id; lat = pos 0; lon = pos 0 }

-- a name at a position; where the name can't be used, which refusal 8 keeps from happening in a load, the id key
abbrev pub named_key : Result ℕ NameError → ℤ → ℤ → List ℕ → PlaceKey
named_key (Ok h) lat lon id = record { tag = tag_n; hash = h; lat = lat; lon = lon }
named_key (Err e) lat lon id = id_key id

abbrev pub located_key : Option Micro → Result ℕ NameError → List ℕ → PlaceKey
located_key (Some m) k id = named_key k m.lat m.lon id
located_key None k id = id_key id

-- of the name; where there is none, of the id folded as a name
abbrev pub shown_key : Bool → List ℕ → List ℕ → Result ℕ NameError
shown_key true name id = name_key name
shown_key false name id = name_key id

abbrev pub place_key : Bool → List ℕ → Option Degrees → Bool → List ℕ → List ℕ → PlaceKey
place_key true parent p named name id = parent_key parent
place_key false parent p named name id = located_key (micro_of p) (shown_key named name id) id

-- a text that may be absent
abbrev pub text_of : Option (List ℕ) → List ℕ
text_of (Some text) = text
text_of None = []
