-- Three stops of one name at the latitudes 0, 1000 and 2000 microdegrees: a and b match, b and c match, a and c do not.
use Rattle.std.specs.Prelude.{◌≡◌, List, [], ◌∷◌, ℕ, take, None, Some}
use Rattle.std.specs.Float.{binary64}
use Rattle.std.specs.Float.Ieee.{of_bits}
use Rattle.texts.specs.Texts.{held}
use Rattle.stops.specs.declared.Stop.{Stop}
use Rattle.places.specs.Places.{places_of}

-- a stop with an id of one byte and the name x, at longitude 0 and at the latitude of these bits
abbrev pub stop_named_x : ℕ → ℕ → Stop
stop_named_x id bits = record {
  id = held 32 (id ∷ []);
  name = Some (held 64 (120 ∷ []));
  parent = None;
  location_type = 0;
  degrees = Some (record { latitude = of_bits binary64 bits; longitude = of_bits binary64 0 });
  members = 0;
}

-- a at 0.0, b at 0.001 and c at 0.002 degrees
abbrev pub chain : List Stop
chain = stop_named_x 97 0 ∷ stop_named_x 98 0x3f50624dd2f1a9fc ∷ stop_named_x 99 0x3f60624dd2f1a9fc ∷ []

-- a represents b, and c is a place of its own
abbrev pub ChainInstance : Type 0
ChainInstance = take 3 (places_of chain) ≡ 0 ∷ 0 ∷ 2 ∷ []
