-- The events that the loops of a search within a limit come to, each from where it stands: the contracts of their functions. That together
-- they come to the events of crate `counted`, over places, is `events-by-loops`.
use Rattle.std.specs.Prelude.{◌≡◌, cond, List, [], ◌∷◌, ◌++◌, map, ℕ, ◌+◌, ◌-◌, min, eqb}
use Rattle.laws.specs.Lists.{concat_map, span}
use Rattle.ways.specs.Rides.{leg, First, first_ride, first_rides}
use Rattle.search_input.specs.declared.FeedCall.{FeedCall}
use Rattle.search_input.specs.declared.FirstRide.{FirstRide}
use Rattle.counted.specs.Events.{tested, offered, offers_of}
use Rattle.counted.specs.Joins.{join_of, events}
use Rattle.rides.specs.Rows.{Sheet, Joins, first_at, direct_by, change_by, network_of}
use Rattle.rides.specs.Loops.{later_from, last_alight_rows, change_rows, direct_rows}
use Rattle.rides.specs.Sheets.{sheet_of, joins_of}
use Rattle.limited_rides.specs.Runs.{RowEvent}
use Rattle.calls.specs.Sizes.{call_room}

-- the ways of two loops, each from where it stands
unfoldable pub run_events : (ℕ → List RowEvent) → (ℕ → FeedCall) → ℕ → ℕ → ℕ → List RowEvent
run_events g at n i j = concat_map g (later_from at n i j)

unfoldable pub call_events : (ℕ → List RowEvent) → ℕ → ℕ → List RowEvent
call_events g n i = concat_map g (span i (n - i))

-- the first ride by its places
abbrev pub places_of : FirstRide → First ℕ
places_of f = first_ride f.origin f.board f.alight

-- the join with the ride from j to m, and its offers if the first ride joins it
unfoldable pub ride_events : Sheet → Joins → FirstRide → ℕ → ℕ → List RowEvent
ride_events s joins f j m =
    cond (s.at m).alight
    (tested (join_of (places_of f) (leg j m)) ∷ map offered (cond (joins f j) (last_alight_rows s f j m) [])) []

unfoldable pub board_events : Sheet → Joins → ℕ → FirstRide → ℕ → List RowEvent
board_events s joins n f j = cond (s.at j).board (run_events (ride_events s joins f j) s.at n j (j + 1)) []

-- with max_transfers 1, each last ride
unfoldable pub change_events : Sheet → Joins → ℕ → ℕ → FirstRide → List RowEvent
change_events s joins depth n f = cond (eqb depth 1) (call_events (board_events s joins n f) n 0) []

-- a first ride: its direct journeys, then the joins
unfoldable pub first_events : Sheet → Joins → ℕ → ℕ → FirstRide → List RowEvent
first_events s joins depth n f = map offered (direct_rows s f) ++ change_events s joins depth n f

-- every event, in order
unfoldable pub row_events : Sheet → Joins → ℕ → ℕ → List RowEvent
row_events s joins depth n = concat_map (λ f. first_events s joins depth n (first_at s f)) (first_rides (network_of s joins) (span 0 n))

-- every event of a search over the lent arrays and their first n calls, of which there are at most 512
unfoldable pub events_at : List ℕ → List ℕ → ℕ → ℕ → List RowEvent
events_at f g n depth =
    events (network_of (sheet_of f) (joins_of f g)) (direct_by (sheet_of f)) (change_by (sheet_of f)) depth (span 0 (min n call_room))

-- ---- what is claimed

-- the offers after a first ride are its rows
abbrev pub ChangeOffers : Type 0
ChangeOffers =
    (s : Sheet) (joins : Joins) (depth n : ℕ) (f : FirstRide) → offers_of (change_events s joins depth n f) ≡ change_rows s joins depth n f

-- the loops come to every event, in order
abbrev pub EventsByLoops : Type 0
EventsByLoops = (f g : List ℕ) (n depth : ℕ) → events_at f g n depth ≡ row_events (sheet_of f) (joins_of f g) depth (min n call_room)
