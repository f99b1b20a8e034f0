-- The joins of a block are its count of rides, and its offers are its rows.
use mathlib.Core.Path.{◌≡◌, refl, sym, ap, ◌∙◌}
use mathlib.Core.Bool.{Bool, true, false, cond}
use mathlib.Core.List.{List, [], ◌∷◌, ◌++◌, map}
use Prim.Native.Nat.{ℕ, ◌+◌, ◌-◌, ◌<◌}
use native.Mathlib.Omega.{arith}
use lib.Dec.{eqb}
use lib.ListN.{length, length-append, get_or}
use Rattle.laws.specs.Lists.{concat_map, filterb, span}
use Rattle.laws.proofs.Places.{concat_map-cong, concat_map-cond}
use Rattle.profile.specs.Found.{Row}
use Rattle.search_input.specs.declared.FirstRide.{FirstRide}
use Rattle.ways.specs.Rides.{leg}
use Rattle.counted.specs.Events.{tested, offered, offers_of, joins_in}
use Rattle.counted.specs.Events as counted
use Rattle.counted.specs.Joins.{Join, join_of}
use Rattle.limited_rides.specs.Runs.{RowEvent}
use Rattle.counted.proofs.EventLaws.{offers-flat, offers-append, joins-append, offers-offered, joins-offered}
use Rattle.rides.specs.Rows.{Sheet, Joins}
use Rattle.rides.specs.Sheets.{sheet_of, joins_of}
use Rattle.rides.specs.Loops.{over_bits, over_run, over_calls, later_from, last_at, last_alight_rows, last_board_rows, change_rows, direct_rows}
use Rattle.limited_rides.specs.RowEvents.{run_events, call_events, places_of}
use Rattle.limited_rides.specs.RowEvents.{ride_events, board_events, change_events, first_events, ChangeOffers}
use Rattle.limited_rides.specs.Counts.{alights_from, rides_from, sum_of, rides_in, Counts, BoardJoins, ChangeJoins}
use Rattle.limited_rides.specs.declared.counts.RideCounts.{RideCounts}

-- ---- joins

joins-count : (xs ys : List RowEvent) → joins_in (xs ++ ys) ≡ joins_in xs + joins_in ys
joins-count xs ys = ap length (joins-append xs ys) ∙ length-append (counted.joins_of xs) (counted.joins_of ys)

module _ (s : Sheet) (joins : Joins) (f : FirstRide) (j : ℕ) where
  alights : (ms : List ℕ) → joins_in (concat_map (ride_events s joins f j) ms) ≡ length (filterb (λ m. (s.at m).alight) ms)
  unfolding ride_events
  alights [] = refl
  alights (m ∷ ms) = joins-count (ride_events s joins f j m) (concat_map (ride_events s joins f j) ms) ∙ go (s.at m).alight (alights ms)
    where
      rows : List Row
      rows = cond (joins f j) (last_alight_rows s f j m) []

      none : joins_in (map {B = RowEvent} offered rows) ≡ 0
      none = ap length (joins-offered rows)

      go : (b : Bool) → joins_in (concat_map (ride_events s joins f j) ms) ≡ length (filterb (λ m. (s.at m).alight) ms)
          → joins_in (cond b (tested (join_of (places_of f) (leg j m)) ∷ map offered rows) [])
          + joins_in (concat_map (ride_events s joins f j) ms)
          ≡ length (cond b (m ∷ filterb (λ m. (s.at m).alight) ms) (filterb (λ m. (s.at m).alight) ms))
      go true ih = omega (arith, none)
      go false ih = omega arith

pub board-joins : BoardJoins
unfolding board_events run_events rides_from alights_from
board-joins s joins n f j = go (s.at j).board
  where
    go : (b : Bool) → joins_in (cond b (concat_map (ride_events s joins f j) (later_from s.at n j (j + 1))) [])
        ≡ cond b (length (filterb (λ m. (s.at m).alight) (later_from s.at n j (j + 1)))) 0
    go true = alights s joins f j (later_from s.at n j (j + 1))
    go false = refl

pub change-joins : ChangeJoins
unfolding change_events call_events rides_in
change-joins s joins n f = go (span 0 (n - 0))
  where
    go : (js : List ℕ) → joins_in (concat_map (board_events s joins n f) js) ≡ sum_of (rides_from s.at n) js
    go [] = refl
    go (j ∷ js) =
        let e = board-joins s joins n f j in
        joins-count (board_events s joins n f j) (concat_map (board_events s joins n f) js) ∙ rw (e, go js)

-- ---- offers

ride-offers : (s : Sheet) (joins : Joins) (f : FirstRide) (j m : ℕ)
    → offers_of (ride_events s joins f j m) ≡ cond (joins f j) (last_alight_rows s f j m) []
unfolding ride_events last_alight_rows
ride-offers s joins f j m = go (s.at m).alight (joins f j) (over_bits (last_at s f j m) (s.targets (s.at m).stop))
  where
    go : (a c : Bool) (xs : List Row)
        → offers_of (cond a (tested (join_of (places_of f) (leg j m)) ∷ map offered (cond c (cond a xs []) [])) [])
        ≡ cond c (cond a xs []) []
    go true true xs = offers-offered (Join ℕ) xs
    go true false xs = refl
    go false true xs = refl
    go false false xs = refl

flat : (g : ℕ → List RowEvent) (h : ℕ → List Row) → ((m : ℕ) → offers_of (g m) ≡ h m) → (ms : List ℕ)
    → offers_of (concat_map g ms) ≡ concat_map h ms
flat g h e ms = offers-flat g ms ∙ concat_map-cong _ h e ms

pub board-offers : (s : Sheet) (joins : Joins) (n : ℕ) (f : FirstRide) (j : ℕ)
    → offers_of (board_events s joins n f j) ≡ last_board_rows s joins n f j
unfolding board_events run_events last_board_rows over_run
board-offers s joins n f j = go (s.at j).board
  where
    ms : List ℕ
    ms = later_from s.at n j (j + 1)

    go : (b : Bool) → offers_of (cond b (concat_map (ride_events s joins f j) ms) [])
        ≡ cond b (cond (joins f j) (concat_map (last_alight_rows s f j) ms) []) []
    go true = flat (ride_events s joins f j) _ (ride-offers s joins f j) ms ∙ concat_map-cond (joins f j) (last_alight_rows s f j) ms
    go false = refl

pub change-offers : ChangeOffers
unfolding change_events change_rows call_events over_calls
change-offers s joins depth n f = go (eqb depth 1)
  where
    go : (b : Bool)
        → offers_of (cond b (concat_map (board_events s joins n f) (span 0 (n - 0))) [])
        ≡ cond b (concat_map (last_board_rows s joins n f) (span 0 (n - 0))) []
    go true = flat (board_events s joins n f) (last_board_rows s joins n f) (board-offers s joins n f) (span 0 (n - 0))
    go false = refl

-- ---- a first ride

pub first-offers : (s : Sheet) (joins : Joins) (depth n : ℕ) (f : FirstRide)
    → offers_of (first_events s joins depth n f) ≡ direct_rows s f ++ change_rows s joins depth n f
unfolding first_events
first-offers s joins depth n f =
    offers-append (map offered (direct_rows s f)) (change_events s joins depth n f)
    ∙ rw (offers-offered (Join ℕ) (direct_rows s f), change-offers s joins depth n f) refl

-- ---- by the counts

module _ (feed changes : List ℕ) (n : ℕ) (f : FirstRide) {k : RideCounts} (v : Counts k feed n) where
  pub board-counted : (j : ℕ) → j < n → get_or k.board j 0 ≡ joins_in (board_events (sheet_of feed) (joins_of feed changes) n f j)
  unfolding sheet_of
  board-counted j h = v.board j h ∙ sym (board-joins (sheet_of feed) (joins_of feed changes) n f j)

  pub change-counted : k.all ≡ joins_in (change_events (sheet_of feed) (joins_of feed changes) 1 n f)
  unfolding sheet_of
  change-counted = v.all ∙ sym (change-joins (sheet_of feed) (joins_of feed changes) n f)

  pub first-counted : k.all ≡ joins_in (first_events (sheet_of feed) (joins_of feed changes) 1 n f)
  unfolding first_events
  first-counted =
      let s = sheet_of feed in
      let none : joins_in (map {B = RowEvent} offered (direct_rows s f)) ≡ 0 = ap length (joins-offered (direct_rows s f)) in
      let e = joins-count (map offered (direct_rows s f)) (change_events s (joins_of feed changes) 1 n f) in
      omega (arith, e, none, change-counted)
