-- What is handed in again of the settings, a stop and a call that a load holds. A rule is held as it is handed in.
use Rattle.std.specs.Prelude.{ℕ, Bool, cond, List, [], ◌∷◌, Option, Some, option_map}
use Rattle.settings.specs.declared.Settings.{Settings}
use Rattle.stops.specs.declared.Stop.{Stop}
use Rattle.stops.specs.declared.StopInput.{StopInput}
use Rattle.stops.specs.Stops.{id_of}
use Rattle.stops.specs.Sound.{stop_at}
use Rattle.calls.specs.declared.Call.{Call}
use Rattle.calls.specs.declared.CallInput.{CallInput}

-- ---- settings: every epoch is the start, from which held times count

unfoldable pub at_start : Settings → Settings
at_start s = record {
  origins = s.origins;
  targets = s.targets;
  origin_walks = s.origin_walks;
  target_walks = s.target_walks;
  transfer_seconds = s.transfer_seconds;
  max_transfers = s.max_transfers;
  now = s.now;
  epochs = s.now ∷ s.now ∷ s.now ∷ [];
}

-- ---- stop

-- the id of the station, if there is one
abbrev pub parent_id_of : List Stop → Stop → Option (List ℕ)
parent_id_of stops s = option_map (λ (p : ℕ). id_of (stop_at stops p)) s.parent

unfoldable pub stop_input_of : Stop → StopInput
stop_input_of s = record { location_type = s.location_type; degrees = s.degrees; members = s.members }

-- ---- call: times as held

-- 1 where boarding (alighting) is barred, 2 where it is on request, else 0
unfoldable pub type_of : Bool → Bool → ℕ
type_of may asked = cond may (cond asked 2 0) 1

unfoldable pub call_input_of : Call → CallInput
call_input_of c = record {
  trip = c.trip;
  day = c.day;
  sequence = c.sequence;
  stop = c.stop;
  arrival = Some c.arrival;
  departure = Some c.departure;
  pickup = type_of c.board c.board_request;
  drop_off = type_of c.alight c.alight_request;
}
