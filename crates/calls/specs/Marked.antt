-- The starred instances of the window.
use Rattle.std.specs.Prelude.{◌≡◌, true, false, [], ◌∷◌, ℕ, pos, None, Some}
use Rattle.settings.specs.declared.Settings.{Settings}
use Rattle.calls.specs.declared.CallInput.{CallInput}
use Rattle.calls.specs.Calls.{window}

-- a load that starts 1000 seconds into its first day
abbrev pub started : Settings
started = record {
  origins = 1;
  targets = 1;
  origin_walks = 0 ∷ 0 ∷ 0 ∷ 0 ∷ [];
  target_walks = 0 ∷ 0 ∷ 0 ∷ 0 ∷ [];
  transfer_seconds = 0;
  max_transfers = 0;
  now = pos 1000;
  epochs = pos 0 ∷ pos 86400 ∷ pos 172800 ∷ [];
}

-- a call from a to d seconds into that day
abbrev pub marked_call : ℕ → ℕ → CallInput
marked_call a d = record { trip = 1; day = 0; sequence = 1; stop = 0; arrival = Some a; departure = Some d; pickup = 0; drop_off = 0 }

-- −10 to 0: boardable, not alightable
abbrev pub EarlyCall : Type 0
EarlyCall = window started 21600 (marked_call 990 1000) ≡ Some (record {
  trip = 1;
  day = 0;
  sequence = 1;
  stop = 0;
  arrival = 0;
  departure = 0;
  board = true;
  alight = false;
  board_request = false;
  alight_request = false;
})

-- departure −1: outside
abbrev pub GoneCall : Type 0
GoneCall = window started 21600 (marked_call 990 999) ≡ None

abbrev pub MarkedWindows : Type 0
MarkedWindows = EarlyCall × GoneCall
