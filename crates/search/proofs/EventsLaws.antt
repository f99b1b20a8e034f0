-- The events over the places of a timetable's calls stand for its events, and a sheet that holds the timetable has them.
use mathlib.Core.Path.{◌≡◌, refl, sym, ap, ◌∙◌}
use mathlib.Core.List.{List, map, map-id}
use Prim.Native.Nat.{ℕ}
use Rattle.laws.specs.Lists.{span}
use Rattle.laws.proofs.Flat.{map-agree}
use Rattle.ways.specs.Images.{Stand}
use Rattle.calls.specs.declared.Call.{Call}
use Rattle.profile.specs.Found.{Row}
use Rattle.profile.specs.declared.Journey.{Journey}
use Rattle.profile.specs.Journeys.{journey_figures, row_figures, row_of}
use Rattle.profile.specs.Kept.{searched}
use Rattle.profile.proofs.ClaimLaws.{search-maps}
use Rattle.offers.specs.Offers.{Timetable, network_of, direct_by, change_by}
use Rattle.offers.specs.Places.{journey_at}
use Rattle.offers.proofs.PlacesLaws.{row-figures}
use Rattle.counted.specs.Events.{Event, offers_of, joins_in, up_to, finished}
use Rattle.counted.specs.Joins.{Join, events, event_by}
use Rattle.counted.proofs.JoinLaws.{events-of-images}
use Rattle.counted.proofs.StandLaws.{stand-offers, stand-joins, stand-up-to, stand-finished, event-itself}
use Rattle.limited.specs.Limited.{events_of, offers_within, joins_within, finished_within}
use Rattle.search_input.specs.Feed as feed
use Rattle.rides.specs.Rows as by
use Rattle.rides.specs.Rows.{Sheet, Joins, first_of, direct_row, change_row}
use Rattle.rides.specs.Agree.{Agree}
use Rattle.rides.proofs.AgreeLaws.{same-network, same_rows}
use Rattle.limited_rides.specs.Runs.{RowEvent}
use Rattle.search.specs.Rows.{feed_call, sheet_from, joins_from}
use Rattle.search.specs.Events.{sheet_events, place_events, EventsByPlaces, LimitByRows, SameEvents}
use Rattle.search.proofs.RowsLaws.{places}

module _ (t : Timetable) (at : ℕ → Call) (n : ℕ) where
  -- the row of a first ride, alone and with a last ride, is the journey's
  rows-stand : Stand (by.network_of (sheet_from t at) (joins_from t at)) at t.max_transfers (span 0 n) (journey_at at)
      (by.direct_by (sheet_from t at)) (by.change_by (sheet_from t at)) (direct_by t) (change_by t)
  unfolding sheet_from first_of feed_call direct_row change_row row_of feed.leave_of feed.arrival_of journey_at
  rows-stand = record { alone = λ f k p o m. refl; changing = λ one f l k p o q m. refl }

  by-places : map (event_by at (journey_at at)) (place_events t at n)
      ≡ events (network_of t) (direct_by t) (change_by t) t.max_transfers (map at (span 0 n))
  unfolding place_events sheet_events
  by-places =
      events-of-images (by.network_of (sheet_from t at) (joins_from t at)) (network_of t) at t.max_transfers (span 0 n) (journey_at at)
      (by.direct_by (sheet_from t at)) (by.change_by (sheet_from t at)) (direct_by t) (change_by t)
      (places t at n t.max_transfers) rows-stand

pub events-by-places : EventsByPlaces
unfolding events_of
events-by-places t at n e =
    ap (λ (s : List Call). events (network_of t) (direct_by t) (change_by t) t.max_transfers s) e ∙ sym (by-places t at n)

pub limit-by-rows : LimitByRows
unfolding offers_within joins_within finished_within
limit-by-rows limit t at n h l e =
    let es = place_events t at n in
    let e' = events-by-places t at n e in
    let up : up_to limit (events_of t) ≡ map (event_by at (journey_at at)) (up_to limit es) =
    ap (λ (xs : List (Event (Join Call) Journey)). up_to limit xs) e' ∙ stand-up-to at (journey_at at) limit es in
    record {
      kept = ap (λ (xs : List (Event (Join Call) Journey)). searched journey_figures 64 3600 h l (offers_of xs)) up
          ∙ ap (searched journey_figures 64 3600 h l) (stand-offers at (journey_at at) (up_to limit es))
          ∙ search-maps (journey_at at) row_figures journey_figures h l (offers_of (up_to limit es)) (λ o m. row-figures at o);
      joins = ap (λ (xs : List (Event (Join Call) Journey)). joins_in xs) up ∙ stand-joins at (journey_at at) (up_to limit es);
      all = ap (λ (xs : List (Event (Join Call) Journey)). finished limit xs) e' ∙ stand-finished at (journey_at at) limit es;
    }

-- ---- sheets that agree

module _ (s t : Sheet) (joins joins' : Joins) (depth n : ℕ) (a : Agree s t joins joins' depth n) where
  pub events-agree : sheet_events s joins depth n ≡ sheet_events t joins' depth n
  unfolding sheet_events
  events-agree =
      let es : List RowEvent = events (by.network_of s joins) (by.direct_by s) (by.change_by s) depth (span 0 n) in
      sym (map-agree (event_by (λ i. i) (λ (r : Row). r)) (λ e. e) es (λ e m. event-itself e) ∙ map-id es)
      ∙ events-of-images (by.network_of s joins) (by.network_of t joins') (λ i. i) depth (span 0 n) (λ (r : Row). r) (by.direct_by s)
      (by.change_by s) (by.direct_by t) (by.change_by t)
      (same-network s t joins joins' depth n a) (same_rows s t joins joins' depth n a)
      ∙ ap (λ (is : List ℕ). events (by.network_of t joins') (by.direct_by t) (by.change_by t) depth is) (map-id (span 0 n))

pub same-events : SameEvents
unfolding place_events
same-events s joins t at n depth a e =
    ap (λ (d : ℕ). sheet_events s joins d n) e ∙ events-agree s (sheet_from t at) joins (joins_from t at) t.max_transfers n a
