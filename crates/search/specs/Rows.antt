-- A timetable and its calls by places as what the loops read, and the rows that they then offer: those of the offers.
use Rattle.std.specs.Prelude.{◌≡◌, Bool, List, map, ℕ}
use Rattle.calls.specs.declared.Call.{Call}
use Rattle.profile.specs.Found.{Row}
use Rattle.profile.specs.Journeys.{journey_figures, row_figures}
use Rattle.profile.specs.Kept.{searched, map_st}
use Rattle.offers.specs.Offers.{Timetable, ride_of, offers}
use Rattle.offers.specs.Places.{origin_mask, target_mask, journey_at, InPlaces}
use Rattle.search_input.specs.declared.FeedCall.{FeedCall}
use Rattle.search_input.specs.declared.FirstRide.{FirstRide}
use Rattle.rides.specs.Rows.{Sheet, Joins}
use Rattle.rides.specs.Routes.{route_rows}
use Rattle.rides.specs.Agree.{Agree}
use Rattle.profile.specs.Sizes.{kept_room, least_horizon}

-- what the loops read of a call
unfoldable pub feed_call : Call → FeedCall
feed_call c = record {
  trip = c.trip;
  day = c.day;
  stop = c.stop;
  arrival = c.arrival;
  departure = c.departure;
  board = c.board;
  alight = c.alight;
}

unfoldable pub sheet_from : Timetable → (ℕ → Call) → Sheet
sheet_from t at =
    record {
      at = λ i. feed_call (at i);
      origins = origin_mask t;
      targets = target_mask t;
      origin_walk = t.origin_walk;
      target_walk = t.target_walk;
    }

-- a first ride joins as the ride between its calls does
unfoldable pub joins_from : Timetable → (ℕ → Call) → FirstRide → ℕ → Bool
joins_from t at f j = t.joins (ride_of (at f.board) (at f.alight)) (at j)

-- every offer as a row, in order. n: how many calls there are
unfoldable pub row_offers : Timetable → (ℕ → Call) → ℕ → List Row
row_offers t at n = route_rows (sheet_from t at) (joins_from t at) t.max_transfers n

-- ---- what is claimed

-- the loops offer what is offered
abbrev pub OffersByPlaces : Type 0
OffersByPlaces = (t : Timetable) (at : ℕ → Call) (n : ℕ) → InPlaces t at n → offers t ≡ map (journey_at at) (row_offers t at n)

-- a search of the rows keeps the rows of what a search of the offers keeps
abbrev pub SearchByRows : Type 0
SearchByRows = (t : Timetable) (at : ℕ → Call) (n h l : ℕ) → InPlaces t at n
    → searched journey_figures kept_room least_horizon h l (offers t)
    ≡ map_st (journey_at at) (searched row_figures kept_room least_horizon h l (row_offers t at n))

-- a sheet holds the timetable, with `at` the call at each of the n places
abbrev pub Agrees : Sheet → Joins → Timetable → (ℕ → Call) → ℕ → Type 0
Agrees s joins t at n = Agree s (sheet_from t at) joins (joins_from t at) t.max_transfers n

-- then its rows are those of the offers
abbrev pub SameRows : Type 0
SameRows = (s : Sheet) (joins : Joins) (t : Timetable) (at : ℕ → Call) (n depth : ℕ) → Agrees s joins t at n → depth ≡ t.max_transfers
    → route_rows s joins depth n ≡ row_offers t at n
