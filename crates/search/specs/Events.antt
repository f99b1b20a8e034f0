-- The events of a timetable by the places of its calls, as the loops within a limit come to them: joins and rows, in order.
use Rattle.std.specs.Prelude.{◌≡◌, List, map, ℕ}
use Rattle.laws.specs.Lists.{span}
use Rattle.calls.specs.declared.Call.{Call}
use Rattle.profile.specs.Journeys.{journey_figures, row_figures}
use Rattle.profile.specs.Kept.{searched, map_st}
use Rattle.offers.specs.Offers.{Timetable}
use Rattle.offers.specs.Places.{journey_at, InPlaces}
use Rattle.counted.specs.Events.{offers_of, joins_in, up_to, finished}
use Rattle.counted.specs.Joins.{events, event_by}
use Rattle.limited.specs.Limited.{events_of, offers_within, joins_within, finished_within}
use Rattle.rides.specs.Rows.{Sheet, Joins, direct_by, change_by, network_of}
use Rattle.limited_rides.specs.Runs.{RowEvent}
use Rattle.search.specs.Rows.{sheet_from, joins_from, Agrees}
use Rattle.profile.specs.Sizes.{kept_room, least_horizon}

-- every event over a sheet. n: how many calls there are
unfoldable pub sheet_events : Sheet → Joins → ℕ → ℕ → List RowEvent
sheet_events s joins depth n = events (network_of s joins) (direct_by s) (change_by s) depth (span 0 n)

-- over a timetable, `at` the call at each place
unfoldable pub place_events : Timetable → (ℕ → Call) → ℕ → List RowEvent
place_events t at n = sheet_events (sheet_from t at) (joins_from t at) t.max_transfers n

-- ---- what is claimed

-- they stand for the events of the timetable
abbrev pub EventsByPlaces : Type 0
EventsByPlaces = (t : Timetable) (at : ℕ → Call) (n : ℕ) → InPlaces t at n
    → events_of t ≡ map (event_by at (journey_at at)) (place_events t at n)

-- so a search of the rows within a limit keeps the rows of what a search of the offers within it keeps, tests as many joins, and ends alike
pub record WithinByRows (limit : ℕ) (t : Timetable) (at : ℕ → Call) (n h l : ℕ) : Type 0 where
  pub kept : searched journey_figures kept_room least_horizon h l (offers_within limit t)
      ≡ map_st (journey_at at) (searched row_figures kept_room least_horizon h l (offers_of (up_to limit (place_events t at n))))
  pub joins : joins_within limit t ≡ joins_in (up_to limit (place_events t at n))
  pub all : finished_within limit t ≡ finished limit (place_events t at n)

abbrev pub LimitByRows : Type 0
LimitByRows = (limit : ℕ) (t : Timetable) (at : ℕ → Call) (n h l : ℕ) → InPlaces t at n → WithinByRows limit t at n h l

-- a sheet that holds the timetable has its events
abbrev pub SameEvents : Type 0
SameEvents = (s : Sheet) (joins : Joins) (t : Timetable) (at : ℕ → Call) (n depth : ℕ) → Agrees s joins t at n → depth ≡ t.max_transfers
    → sheet_events s joins depth n ≡ place_events t at n
