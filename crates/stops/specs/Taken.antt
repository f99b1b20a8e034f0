-- The record of a stop that is taken, and what an unused slot holds.
use Rattle.std.specs.Prelude.{ℕ, List, [], None, Option, option_map}
use Rattle.texts.specs.declared.Text.{Text}
use Rattle.texts.specs.Texts.{held}
use Rattle.stops.specs.declared.Stop.{Stop}
use Rattle.stops.specs.declared.StopInput.{StopInput}
use Rattle.stops.specs.Sizes.{name_bytes}
use Rattle.texts.specs.Sizes.{id_bytes}

abbrev pub held_name : Option (List ℕ) → Option (Text name_bytes)
held_name name = option_map (held name_bytes) name

-- texts of at most 32 and 64 bytes, as every taken stop has, are held whole
unfoldable pub stop_of : List ℕ → Option (List ℕ) → Option ℕ → StopInput → Stop
stop_of id name station i = record {
  id = held id_bytes id;
  name = held_name name;
  parent = station;
  location_type = i.location_type;
  degrees = i.degrees;
  members = i.members;
}

abbrev pub blank_stop : Stop
blank_stop = record { id = held id_bytes []; name = None; parent = None; location_type = 0; degrees = None; members = 0 }
