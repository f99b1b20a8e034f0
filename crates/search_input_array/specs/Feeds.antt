-- The feed: six numbers for each call, of at most 512 (trip, day, stop, arrival, departure, flags), then from 3072 the membership byte of each of
-- 128 stops, masked to the counts of origins and targets, from 3200 the walks of 4 origins and from 3204 those of 4 targets.
use Rattle.std.specs.Prelude.{◌≡◌, Bool, true, false, cond, List, [], ◌∷◌, ℕ, ◌+◌, ◌*◌, ◌/◌, ◌%◌, ◌^◌, min, ◌<◌, ◌≤◌, eqb, ltb, get_or}
use Rattle.settings.specs.declared.Settings.{Settings}
use Rattle.stops.specs.declared.Stop.{Stop}
use Rattle.stops.specs.Sound.{stop_at}
use Rattle.calls.specs.declared.Call.{Call}
use Rattle.calls.specs.Tables.{blank_call}
use Rattle.stops.specs.Sizes.{stop_room, no_stop}
use Rattle.search_input.specs.Layout.{call_width, members_place, origin_walks_place, target_walks_place}

-- a stop past the 128th, which no step takes, is 65535
unfoldable pub stop_number : ℕ → ℕ
stop_number s = cond (ltb s stop_room) s no_stop

-- bit 0: boardable; bit 1: alightable
unfoldable pub flags_of : Bool → Bool → ℕ
flags_of false false = 0
flags_of true false = 1
flags_of false true = 2
flags_of true true = 3

-- the six numbers of a call
unfoldable pub six_of : Call → List ℕ
unfolding stop_number flags_of
six_of c = c.trip ∷ c.day ∷ stop_number c.stop ∷ c.arrival ∷ c.departure ∷ flags_of c.board c.alight ∷ []

-- the membership byte with the digits past the counts left out
unfoldable pub masked_of : ℕ → ℕ → ℕ → ℕ
masked_of origins targets members = members % 2 ^ min origins 4 + members / 16 % 2 ^ min targets 4 * 16

-- the feed holds the first n of these calls, the members of these stops, of which none past the 128th has any, and the walks
pub record Feeds (f : List ℕ) (calls : List Call) (n : ℕ) (stops : List Stop) (s : Settings) : Type 0 where
  pub trip : (i : ℕ) → i < n → get_or f (i * call_width) 0 ≡ (get_or calls i blank_call).trip
  pub day : (i : ℕ) → i < n → get_or f (i * call_width + 1) 0 ≡ (get_or calls i blank_call).day
  pub stop : (i : ℕ) → i < n → get_or f (i * call_width + 2) 0
      ≡ cond (ltb (get_or calls i blank_call).stop stop_room) (get_or calls i blank_call).stop no_stop
  pub arrival : (i : ℕ) → i < n → get_or f (i * call_width + 3) 0 ≡ (get_or calls i blank_call).arrival
  pub departure : (i : ℕ) → i < n → get_or f (i * call_width + 4) 0 ≡ (get_or calls i blank_call).departure
  pub board : (i : ℕ) → i < n → eqb (get_or f (i * call_width + 5) 0 % 2) 1 ≡ (get_or calls i blank_call).board
  pub alight : (i : ℕ) → i < n → eqb (get_or f (i * call_width + 5) 0 / 2 % 2) 1 ≡ (get_or calls i blank_call).alight
  pub origins : (k : ℕ) → k < stop_room → get_or f (members_place + k) 0 % 16 ≡ (stop_at stops k).members % 2 ^ min s.origins 4
  pub targets : (k : ℕ) → k < stop_room → get_or f (members_place + k) 0 / 16 % 16 ≡ (stop_at stops k).members / 16 % 2 ^ min s.targets 4
  pub past : (k : ℕ) → stop_room ≤ k → (stop_at stops k).members ≡ 0
  pub origin_walk : (o : ℕ) → o < 4 → get_or f (origin_walks_place + o) 0 ≡ get_or s.origin_walks o 0
  pub target_walk : (x : ℕ) → x < 4 → get_or f (target_walks_place + x) 0 ≡ get_or s.target_walks x 0
