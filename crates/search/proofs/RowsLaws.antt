-- The rows of a timetable are its offers, a search of them is the search, and a sheet that holds the timetable gives them.
use mathlib.Core.Path.{◌≡◌, refl, sym, ap, ◌∙◌}
use mathlib.Core.List.{List, [], ◌∷◌, map, map-map}
use Prim.Native.Nat.{ℕ, ◌*◌, ◌/◌}
use lib.Dec.{leb}
use Rattle.laws.specs.Lists.{filterb, span}
use Rattle.laws.proofs.Flat.{map-agree}
use Rattle.ways.specs.Rides.{Leg, First}
use Rattle.ways.specs.Images.{leg_by, Images}
use Rattle.ways.specs.Routes.{routes, route_by}
use Rattle.ways.proofs.RouteLaws.{routes-of-images}
use Rattle.calls.specs.declared.Call.{Call}
use Rattle.profile.specs.Journeys.{journey_figures, row_figures, row_of}
use Rattle.profile.specs.Kept.{searched}
use Rattle.profile.proofs.ClaimLaws.{search-maps}
use Rattle.offers.specs.Offers.{Timetable, network_of, ride_by, on_journey, journey_to, journey_by, offers}
use Rattle.offers.specs.Places.{origin_mask, target_mask, journey_at}
use Rattle.offers.proofs.PlacesLaws.{mask-bits, row-figures}
use Rattle.search_input.specs.Feed as feed
use Rattle.rides.specs.Rows as by
use Rattle.rides.specs.Rows.{first_of, direct_row, change_row, three_row}
use Rattle.rides.specs.Routes.{on_row, row_to, row_by, route_rows}
use Rattle.rides.proofs.RouteAgree.{route-rows-agree}
use Rattle.search.specs.Rows.{feed_call, sheet_from, joins_from, row_offers, OffersByPlaces, SearchByRows, SameRows}

module _ (t : Timetable) (at : ℕ → Call) (n : ℕ) where
  -- the call at a place is read as the place is
  pub places : (depth : ℕ) → Images (by.network_of (sheet_from t at) (joins_from t at)) (network_of t) at depth (span 0 n)
  unfolding network_of by.network_of sheet_from joins_from first_of feed_call feed.same_run origin_mask target_mask
  places depth =
      record {
        same = λ i k mi mk. refl;
        board = λ i m. refl;
        alight = λ i m. refl;
        origins = λ i m. ap (filterb (λ o. leb (t.origin_walk o * 60) (at i).departure))
            (sym (mask-bits t.origins (t.members (at i).stop)));
        targets = λ i m. sym (mask-bits t.targets (t.members (at i).stop / 16));
        joins = λ one i k j mi mk mj. refl;
      }

  -- and the row is the journey's
  on-journey : (f : First ℕ) (x : ℕ) (p r : Leg ℕ) (ls : List (Leg ℕ))
      → on_journey t (ride_by (leg_by at f.ride)) f.o x (leg_by at p) (leg_by at r) (map (leg_by at) ls)
      ≡ journey_at at (on_row (sheet_from t at) (by.first_at (sheet_from t at) f) x p r ls)
  unfolding sheet_from first_of feed_call three_row row_of feed.leave_of feed.arrival_of journey_at
  on-journey f x p r [] = refl
  on-journey f x p r (l ∷ ls) = on-journey f x r l ls

  to-journey : (f : First ℕ) (x : ℕ) (ls : List (Leg ℕ))
      → journey_to t (ride_by (leg_by at f.ride)) f.o x (map (leg_by at) ls)
      ≡ journey_at at (row_to (sheet_from t at) (by.first_at (sheet_from t at) f) x ls)
  unfolding sheet_from first_of feed_call direct_row change_row row_of feed.leave_of feed.arrival_of journey_at
  to-journey f x [] = refl
  to-journey f x (l ∷ []) = refl
  to-journey f x (p ∷ r ∷ ls) = on-journey f x p r ls

  by-places : map (journey_by t) (routes (network_of t) t.max_transfers (map at (span 0 n))) ≡ map (journey_at at) (row_offers t at n)
  unfolding row_offers route_rows
  by-places =
      let rs = routes (by.network_of (sheet_from t at) (joins_from t at)) t.max_transfers (span 0 n) in
      ap (map (journey_by t)) (routes-of-images (by.network_of (sheet_from t at) (joins_from t at)) (network_of t) at t.max_transfers
      (span 0 n) (places 1))
      ∙ map-map (journey_by t) (route_by at) rs
      ∙ map-agree (λ r. journey_by t (route_by at r)) (λ r. journey_at at (row_by (sheet_from t at) r)) rs
      (λ r m. to-journey r.first r.way.target r.way.rides)
      ∙ sym (map-map (journey_at at) (row_by (sheet_from t at)) rs)

pub offers-by-places : OffersByPlaces
unfolding offers
offers-by-places t at n e = ap (λ (s : List Call). map (journey_by t) (routes (network_of t) t.max_transfers s)) e ∙ by-places t at n

pub search-by-rows : SearchByRows
search-by-rows t at n h l e =
    ap (searched journey_figures 64 3600 h l) (offers-by-places t at n e)
    ∙ search-maps (journey_at at) row_figures journey_figures h l (row_offers t at n) (λ o m. row-figures at o)

pub same_rows : SameRows
unfolding row_offers
same_rows s joins t at n depth a e = ap (λ (d : ℕ). route_rows s joins d n) e
    ∙ route-rows-agree s (sheet_from t at) joins (joins_from t at) t.max_transfers n a
