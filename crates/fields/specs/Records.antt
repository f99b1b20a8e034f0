-- What a filled record hands in.
use Rattle.std.specs.Prelude.{ℕ, ◌+◌, ◌*◌, cond, List, [], ◌∷◌, None, Option, Some}
use Rattle.place.specs.declared.Degrees.{Degrees}
use Rattle.settings.specs.declared.Settings.{Settings}
use Rattle.stops.specs.declared.StopInput.{StopInput}
use Rattle.calls.specs.declared.CallInput.{CallInput}
use Rattle.rules.specs.declared.Rule.{Rule}
use Rattle.fields.specs.Numbers.{byte_at, u16_at, u32_at, i64_at, f64_at}
use Rattle.fields.specs.Layout.{has_at, type_at, position_at, members_at, target_walks_at, minutes_at, departure_at, pickup_at}

-- four bytes; those past the count are not walks, and opening leaves them out
unfoldable pub walks_at : List ℕ → ℕ → List ℕ
walks_at b at = byte_at b at ∷ byte_at b (at + 1) ∷ byte_at b (at + 2) ∷ byte_at b (at + 3) ∷ []

-- version 1 keeps minutes, "multiplied by 60 when read" (request 05)
unfoldable pub settings_in : List ℕ → Settings
settings_in b = record {
  origins = byte_at b 1;
  targets = byte_at b 2;
  origin_walks = walks_at b 3;
  target_walks = walks_at b (target_walks_at b);
  transfer_seconds = byte_at b (minutes_at b) * 60;
  max_transfers = byte_at b (minutes_at b + 1);
  now = i64_at b (minutes_at b + 2);
  epochs = i64_at b (minutes_at b + 10) ∷ i64_at b (minutes_at b + 18) ∷ i64_at b (minutes_at b + 26) ∷ [];
}

-- latitude, then longitude
unfoldable pub degrees_at : List ℕ → ℕ → Option Degrees
degrees_at b at = cond (has_at b at) (Some (record { latitude = f64_at b (at + 1); longitude = f64_at b (at + 9) })) None

-- beside the texts: id at 1, name at `name_at`, parent's id at `parent_at`
unfoldable pub stop_in : List ℕ → StopInput
stop_in b = record {
  location_type = byte_at b (type_at b);
  degrees = degrees_at b (position_at b);
  members = byte_at b (members_at b);
}

unfoldable pub seconds_at : List ℕ → ℕ → Option ℕ
seconds_at b at = cond (has_at b at) (Some (u32_at b (at + 1))) None

unfoldable pub call_in : List ℕ → CallInput
call_in b = record {
  trip = u16_at b 1;
  day = byte_at b 3;
  sequence = u32_at b 4;
  stop = u16_at b 8;
  arrival = seconds_at b 10;
  departure = seconds_at b (departure_at b);
  pickup = byte_at b (pickup_at b);
  drop_off = byte_at b (pickup_at b + 1);
}

unfoldable pub min_time_at : List ℕ → ℕ → Option ℕ
min_time_at b at = cond (has_at b at) (Some (u16_at b (at + 1))) None

unfoldable pub rule_in : List ℕ → Rule
rule_in b = record { from = u16_at b 1; to = u16_at b 3; transfer_type = byte_at b 5; seconds = min_time_at b 6 }
