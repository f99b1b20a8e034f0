-- Stops from plain numbers, with the longest texts: the id ends in the two bytes of a number, the name is one byte 64 times; a position, no
-- parent.
use Rattle.std.specs.Prelude.{List, ℕ, ◌-◌, ◌/◌, ◌%◌, get_or, set, replicate, Float, None, Some}
use Rattle.std.specs.Float.{nan}
use Rattle.laws.specs.Tables.{table}
use Rattle.stops.specs.declared.Stop.{Stop}
use Rattle.stops.specs.Sizes.{stop_room, name_bytes}
use Rattle.texts.specs.Sizes.{id_bytes}

unfoldable pub stop_with : ℕ → ℕ → Float → Float → Stop
stop_with id name latitude longitude = record {
  id = record { bytes = set (set (replicate id_bytes 0) (id_bytes - 2) (id / 256)) (id_bytes - 1) (id % 256); len = id_bytes };
  name = Some (record { bytes = replicate name_bytes name; len = name_bytes });
  parent = None;
  location_type = 0;
  degrees = Some (record { latitude = latitude; longitude = longitude });
  members = 0;
}

-- the stop at place k of lists of numbers
unfoldable pub plain_stop : List ℕ → List ℕ → List Float → List Float → ℕ → Stop
unfolding stop_with
plain_stop ids names latitudes longitudes k = stop_with (get_or ids k 0) (get_or names k 0) (get_or latitudes k nan)
    (get_or longitudes k nan)

-- 128 of them
unfoldable pub stops_with : List ℕ → List ℕ → List Float → List Float → List Stop
unfolding plain_stop
stops_with ids names latitudes longitudes = table stop_room (plain_stop ids names latitudes longitudes)
