-- Settings of a version 2 file (request 13): two bytes of transfer seconds where version 1 has one of minutes.
use Rattle.std.specs.Prelude.{ℕ, ◌+◌, Bool, cond, List, [], ◌∷◌, eqb, length}
use Rattle.settings.specs.declared.Settings.{Settings}
use Rattle.fields.specs.Numbers.{byte_at, u16_at, i64_at}
use Rattle.fields.specs.Layout.{target_walks_at, minutes_at, settings_filled_of}
use Rattle.fields.specs.Records.{walks_at, settings_in}

-- the seconds stand where version 1 has its minutes
abbrev pub seconds_place : List ℕ → ℕ
seconds_place b = minutes_at b

unfoldable pub second_settings_in : List ℕ → Settings
second_settings_in b = record {
  origins = byte_at b 1;
  targets = byte_at b 2;
  origin_walks = walks_at b 3;
  target_walks = walks_at b (target_walks_at b);
  transfer_seconds = u16_at b (seconds_place b);
  max_transfers = byte_at b (seconds_place b + 2);
  now = i64_at b (seconds_place b + 3);
  epochs = i64_at b (seconds_place b + 11) ∷ i64_at b (seconds_place b + 19) ∷ i64_at b (seconds_place b + 27) ∷ [];
}

unfoldable pub second_settings_filled_of : List ℕ → Bool
second_settings_filled_of b = eqb (seconds_place b + 35) (length b)

-- ---- the settings of a file, by whether it is of version 2

abbrev pub settings_by : Bool → List ℕ → Settings
settings_by second b = cond second (second_settings_in b) (settings_in b)

abbrev pub settings_filled_by : Bool → List ℕ → Bool
settings_filled_by second b = cond second (second_settings_filled_of b) (settings_filled_of b)
