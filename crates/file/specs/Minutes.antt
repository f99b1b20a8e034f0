-- "Files of version 1 keep minutes and are multiplied by 60 when read" (request 05): what a whole file gives.
use Rattle.refusal.specs.declared.Accepted.TheVariants.{Taken}
use Rattle.std.specs.Prelude.{◌≡◌, List, ◌∷◌, map, ℕ, ◌*◌, Ok}
use Rattle.settings.specs.declared.Settings.{Settings}
use Rattle.fields.specs.Numbers.{byte_at}
use Rattle.fields.specs.Layout.{minutes_at}
use Rattle.fields.specs.Records.{settings_in}
use Rattle.load.specs.Steps.{undated}
use Rattle.steps.specs.Lists.{end_of}
use Rattle.file.specs.Record.{step_in}
use Rattle.file.specs.File.{read_spec_of}
use Rattle.file.specs.Handed.{bodies_of}

-- the settings with this change time
abbrev pub with_seconds : Settings → ℕ → Settings
with_seconds s n = record {
  origins = s.origins;
  targets = s.targets;
  origin_walks = s.origin_walks;
  target_walks = s.target_walks;
  transfer_seconds = n;
  max_transfers = s.max_transfers;
  now = s.now;
  epochs = s.epochs;
}

-- the load of settings with 60 m seconds, which it holds
pub record InSeconds (xs : List ℕ) (b : List ℕ) (bs : List (List ℕ)) (m : ℕ) : Type 0 where
  pub load : (read_spec_of xs).reader.load ≡ end_of (undated (with_seconds (settings_in b) (60 * m))) (map step_in bs)
  pub held : (read_spec_of xs).reader.load.settings.transfer_seconds ≡ 60 * m

-- of every file of version 1 that is read to its end, by the byte of minutes m in its first record
abbrev pub MinutesRead : Type 0
MinutesRead = (xs : List ℕ) → byte_at xs 0 ≡ 1 → (read_spec_of xs).answer ≡ Ok Taken → (b : List ℕ) (bs : List (List ℕ))
    → bodies_of xs ≡ b ∷ bs
    → (m : ℕ) → byte_at b (minutes_at b) ≡ m → InSeconds xs b bs m
