-- Why a stop is sent back, in the order of RULES 16.2: 15, 3, 5, 6, 7, 8, 4.
use Rattle.refusal.specs.First.{Answer}
use Rattle.std.specs.Prelude.{ℕ, List, [], ◌∷◌, Bool, true, false, not, ◌&&◌, ◌||◌, length, take, ltb, leb, eqb, None, Option, Some, Err}
use Rattle.std.specs.Prelude.{is_some}
use Rattle.refusal.specs.declared.Refusal.TheVariants.{AlreadySearched, IdLength, IdTaken, LocationType, ParentUnknown, NameUnusable}
use Rattle.refusal.specs.declared.Refusal.TheVariants.{StopsFull}
use Rattle.key.specs.Utf8.{points}
use Rattle.key.specs.Name.{usable}
use Rattle.place.specs.Positions.{is_usable}
use Rattle.stops.specs.declared.Stop.{Stop}
use Rattle.stops.specs.declared.StopInput.{StopInput}
use Rattle.stops.specs.Stops.{is_it, find_stop}
use Rattle.stops.specs.Sizes.{stop_room, name_bytes}
use Rattle.texts.specs.Sizes.{id_bytes}

-- the station of the load that is named as the parent, if one is named
unfoldable pub station_of : List Stop → ℕ → Option (List ℕ) → Option ℕ
station_of stops count (Some parent) = find_stop (is_it true parent) (take count stops) 0
station_of stops count None = None

-- 3: empty, or over 32 bytes
unfoldable pub id_wrong : List ℕ → Bool
id_wrong id = eqb (length id) 0 || ltb id_bytes (length id)

-- 5: a stop of the load has the id
unfoldable pub is_known : List Stop → ℕ → List ℕ → Bool
is_known stops count id = is_some (find_stop (is_it false id) (take count stops) 0)

-- 6: above 1, or a station with a parent
unfoldable pub type_wrong : ℕ → Bool → Bool
type_wrong kind parent = ltb 1 kind || (eqb kind 1 && parent)

-- a needed name: type 0, no parent, usable position
unfoldable pub name_needed : Option (List ℕ) → StopInput → Bool
name_needed parent i = eqb i.location_type 0 && not (is_some parent) && is_usable i.degrees

-- without a word, with a control, ill-formed or with a code point above 255
unfoldable pub unusable : List ℕ → Bool
unusable s = not (usable (points s))

-- 8: over 64 bytes; or needed and unusable, the id where no name
unfoldable pub name_wrong : Option (List ℕ) → Bool → List ℕ → Bool
name_wrong (Some name) needed id = ltb name_bytes (length name) || (needed && unusable name)
name_wrong None needed id = needed && unusable id

-- `searched` is the load's, of whose stops `count` are taken; `station` is the parent found
unfoldable pub stop_tests : Bool → List Stop → ℕ → Option ℕ → List ℕ → Option (List ℕ) → Option (List ℕ) → StopInput → List (Bool × Answer)
stop_tests searched stops count station id name parent i =
    (searched, Err AlreadySearched)
    ∷ (id_wrong id, Err IdLength)
    ∷ (is_known stops count id, Err IdTaken)
    ∷ (type_wrong i.location_type (is_some parent), Err LocationType)
    ∷ (is_some parent && not (is_some station), Err ParentUnknown)
    ∷ (name_wrong name (name_needed parent i) id, Err NameUnusable)
    ∷ (leb stop_room count, Err StopsFull)
    ∷ []
