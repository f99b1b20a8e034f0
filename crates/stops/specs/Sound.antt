-- The stops of a load that the steps make: the count is in range, the tail blank, the type 0 or 1, no two stops have one id, a parent is
-- a station of the load.
use Rattle.refusal.specs.declared.Accepted.TheVariants.{Taken}
use Rattle.std.specs.Option.{unwrap_or}
use Rattle.std.specs.Prelude.{ℕ, ◌+◌, ◌-◌, ◌≤◌, ◌<◌, ◌≡◌, List, Bool, true, false, length, get_or, drop, set, replicate, None, Option}
use Rattle.std.specs.Prelude.{Some, Ok}
use Rattle.refusal.specs.First.{first_answer}
use Rattle.stops.specs.declared.Stop.{Stop}
use Rattle.stops.specs.declared.StopInput.{StopInput}
use Rattle.key.specs.Utf8.{points}
use Rattle.key.specs.Name.{usable}
use Rattle.stops.specs.Texts.{same_bytes_of}
use Rattle.stops.specs.Stops.{id_of, name_of}
use Rattle.stops.specs.Answer.{station_of, name_needed, stop_tests}
use Rattle.stops.specs.Taken.{stop_of, blank_stop}
use Rattle.stops.specs.Sizes.{stop_room}

-- the stop of a number
unfoldable pub stop_at : List Stop → ℕ → Stop
stop_at ss k = get_or ss k blank_stop

-- there is no parent, or it is a station among the first n
abbrev pub Parented : List Stop → ℕ → Option ℕ → Type 0
Parented ss n None = Unit {0}
Parented ss n (Some p) = (p < n) × ((stop_at ss p).location_type ≡ 1)

pub record StopsSound (stops : List Stop) (count : ℕ) : Type 0 where
  pub few : count ≤ stop_room
  pub long : length stops ≡ stop_room
  pub blank : drop count stops ≡ replicate (stop_room - count) blank_stop
  pub types : (k : ℕ) → k < count → (stop_at stops k).location_type ≤ 1
  pub alone : (j k : ℕ) → j < k → k < count → same_bytes_of (id_of (stop_at stops j)) (id_of (stop_at stops k)) ≡ false
  pub parents : (k : ℕ) → k < count → Parented stops count (stop_at stops k).parent

-- no stop taken yet
abbrev pub NoStopsSound : Type 0
NoStopsSound = StopsSound (replicate stop_room blank_stop) 0

-- a stop that is taken keeps the stops sound
abbrev pub StopKeepsSound : Type 0
StopKeepsSound = (searched : Bool) (stops : List Stop) (count : ℕ) (id : List ℕ) (name parent : Option (List ℕ)) (i : StopInput)
    → StopsSound stops count
    → let station = station_of stops count parent in
    first_answer (stop_tests searched stops count station id name parent i) ≡ Ok Taken
    → StopsSound (set stops count (stop_of id name station i)) (count + 1)

-- a taken stop is held under the id that was handed in
abbrev pub IdKept : Type 0
IdKept = (searched : Bool) (stops : List Stop) (count : ℕ) (id : List ℕ) (name parent : Option (List ℕ)) (i : StopInput)
    → let station = station_of stops count parent in
    first_answer (stop_tests searched stops count station id name parent i) ≡ Ok Taken → id_of (stop_of id name station i) ≡ id

-- and with the name, if one was
abbrev pub NameKept : Type 0
NameKept = (searched : Bool) (stops : List Stop) (count : ℕ) (id : List ℕ) (name parent : Option (List ℕ)) (i : StopInput)
    → let station = station_of stops count parent in
    first_answer (stop_tests searched stops count station id name parent i) ≡ Ok Taken
    → name_of (stop_of id name station i) ≡ name

-- refusal 8: where a name is needed, a taken stop's can be used; its id, where it has no name
abbrev pub NeededUsable : Type 0
NeededUsable = (searched : Bool) (stops : List Stop) (count : ℕ) (id : List ℕ) (name parent : Option (List ℕ)) (i : StopInput)
    → let station = station_of stops count parent in
    first_answer (stop_tests searched stops count station id name parent i) ≡ Ok Taken → name_needed parent i ≡ true
    → usable (points (unwrap_or name id)) ≡ true
