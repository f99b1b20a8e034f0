-- The premises can be met: a short paper of a station, two stops, a rule, a trip and a search, by computation; and the same from other
-- epochs, which has the same file.
use Rattle.std.specs.Prelude.{◌≡◌, true, List, [], ◌∷◌, ℕ, ◌+◌, ℤ, pos, None, Some}
use Rattle.load.specs.declared.Load.{Load}
use Rattle.load.specs.Sound.{Opens}
use Rattle.load.specs.Steps.{Opening, undated}
use Rattle.load.specs.FillStep.{stop, call, rule}
use Rattle.steps.specs.Steps.{Step, filling, search}
use Rattle.steps.specs.Lists.{end_of}
use Rattle.file.specs.File.{read_spec_of}
use Rattle.written.specs.Keeps.{AllGive}
use Rattle.writer.specs.File.{write_spec_of}
use Rattle.saved.specs.Saved.{load_at_start, read_as, Writable, Passes}

-- walk 5, target walk 2, a change time of 3 minutes, no change; starts at 600, and the three days have these epochs
abbrev pub some_opening : List ℤ → Opening
some_opening epochs =
    undated (record {
      origins = 1;
      targets = 1;
      origin_walks = 5 ∷ 0 ∷ 0 ∷ 0 ∷ [];
      target_walks = 2 ∷ 0 ∷ 0 ∷ 0 ∷ [];
      transfer_seconds = 180;
      max_transfers = 0;
      now = pos 600;
      epochs = epochs;
    })

abbrev pub other_opening : Opening
other_opening = some_opening (pos 600 ∷ pos 600 ∷ pos 600 ∷ [])

abbrev pub saved_opening : Opening
saved_opening = some_opening (pos 0 ∷ pos 60 ∷ pos 600 ∷ [])

-- a station with a name, a stop of it at the origin, one at the target; a trip that departs 700 seconds after the start, by an epoch so
-- many seconds before it, and arrives 1800 after it
abbrev pub some_steps : ℕ → List Step
some_steps before =
    filling (stop (65 ∷ []) (Some (77 ∷ [])) None (record { location_type = 1; degrees = None; members = 0 }))
    ∷ filling (stop (66 ∷ []) None (Some (65 ∷ [])) (record { location_type = 0; degrees = None; members = 1 }))
    ∷ filling (stop (67 ∷ []) None None (record { location_type = 0; degrees = None; members = 16 }))
    ∷ filling (rule (record { from = 1; to = 2; transfer_type = 2; seconds = Some 240 }))
    ∷ call_at 1 1 (before + 700)
    ∷ call_at 2 2 (before + 1800)
    ∷ search
    ∷ []
  where
    call_at : ℕ → ℕ → ℕ → Step
    call_at sequence at time = filling (call [] (record {
      trip = 1;
      day = 0;
      sequence = sequence;
      stop = at;
      arrival = Some time;
      departure = Some time;
      pickup = 0;
      drop_off = 0;
    }))

abbrev pub saved_load : Load
saved_load = end_of saved_opening (some_steps 600)

abbrev pub other_load : Load
other_load = end_of other_opening (some_steps 0)

pub record Met : Type 0 where
  -- those of EndReadsBack
  pub opens : Opens saved_opening
  pub gives : AllGive (some_steps 600)
  pub passes : Passes saved_load
  -- of a load that holds something: each step was taken, and the search found a journey
  pub stops : saved_load.stop_count ≡ 3
  pub rules : saved_load.rule_count ≡ 1
  pub calls : saved_load.call_count ≡ 2
  pub searched : saved_load.searched ≡ true
  pub journeys : saved_load.journey_count ≡ 1
  -- so it is read back
  pub read : read_spec_of (write_spec_of saved_load) ≡ read_as (load_at_start saved_load)
  -- those of OneFile, of two loads that differ in their epochs
  pub epochs : saved_load.settings.epochs ≡ pos 0 ∷ pos 60 ∷ pos 600 ∷ []
  pub writable : Writable saved_load
  pub other : Writable other_load
  pub one : write_spec_of saved_load ≡ write_spec_of other_load
