-- What the code makes of the stops first: for each its id, number and key; and the grouping of these.
use Rattle.std.specs.Prelude.{◌≡◌, Bool, cond, List, [], ◌∷◌, ◌++◌, ℕ, ◌%◌, eqb, length, map, set, replicate, None, Option, Some}
use Rattle.laws.specs.Lists.{foldl, span}
use Rattle.laws.specs.Order.{less_bytes}
use Rattle.texts.specs.Texts.{held, bytes_of}
use Rattle.place.specs.declared.PlaceKey.{PlaceKey}
use Rattle.place.specs.Keys.{no_place}
use Rattle.place.specs.Near.{same_keys}
use Rattle.stops.specs.declared.Stop.{Stop}
use Rattle.stops.specs.Sound.{stop_at}
use Rattle.places.specs.declared.Entry.{Entry}
use Rattle.places.specs.Keys.{key_at}
use Rattle.stops.specs.Sizes.{stop_room, no_stop}
use Rattle.texts.specs.Sizes.{id_bytes}

abbrev pub blank_entry : Entry
blank_entry = record { id = held id_bytes []; stop = 0; key = no_place }

unfoldable pub entry_at : List Stop → ℕ → Entry
entry_at ss i = record { id = (stop_at ss i).id; stop = i; key = key_at ss i }

unfoldable pub id_before : Entry → Entry → Bool
id_before a b = less_bytes (bytes_of a.id) (bytes_of b.id)

-- each stands at the place of its number
abbrev pub Numbered : List Entry → Type 0
Numbered xs = map (λ e. e.stop) xs ≡ span 0 (length xs)

-- the first entry that is one place with a key
abbrev pub first_entry : PlaceKey → List Entry → Option ℕ
first_entry key [] = None
first_entry key (x ∷ xs) = cond (same_keys key x.key) (Some x.stop) (first_entry key xs)

pub record EntryGroups : Type 0 where
  pub reps : List Entry
  pub places : List ℕ

abbrev pub put : EntryGroups → Entry → Option ℕ → EntryGroups
put g x (Some r) = record { reps = g.reps; places = set g.places (x.stop % stop_room) r }
put g x None = record { reps = g.reps ++ x ∷ []; places = set g.places (x.stop % stop_room) x.stop }

abbrev pub place_entry : EntryGroups → Entry → EntryGroups
place_entry g x = cond (eqb x.key.tag 0) g (put g x (first_entry x.key g.reps))

abbrev pub no_entries : EntryGroups
no_entries = record { reps = []; places = replicate stop_room no_stop }

unfoldable pub group_entries : List Entry → EntryGroups
group_entries xs = foldl place_entry no_entries xs
