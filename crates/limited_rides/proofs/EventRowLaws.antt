-- The loops come to the events of a search over places: loop by loop, from the innermost.
use mathlib.Core.Path.{◌≡◌, refl, sym, ap, ◌∙◌}
use mathlib.Core.Bool.{Bool, true, false, cond}
use mathlib.Core.List.{List, [], ◌∷◌, map}
use Prim.Native.Nat.{ℕ, ◌+◌, ◌-◌, min}
use native.Mathlib.Omega.{arith}
use lib.Dec.{eqb}
use Rattle.laws.specs.Lists.{concat_map, take_while, span}
use Rattle.laws.specs.Tails.{over_tails}
use Rattle.laws.specs.Bits.{bits_of}
use Rattle.laws.proofs.Flat.{tails-agree, concat_map-filterb, flat-cond, flat-tails, flat-single}
use Rattle.laws.proofs.Places.{concat_map-cong, concat_map-map, tails-span}
use Rattle.ways.specs.Rides.{Leg, leg, first_ride, Network, alightings, rides, first_rides, directs}
use Rattle.ways.proofs.RideLaws as listed
use Rattle.profile.specs.Found.{Row}
use Rattle.search_input.specs.Feed.{same_run, joined}
use Rattle.counted.specs.Events.{tested, offered}
use Rattle.counted.specs.Joins.{join_of, events}
use Rattle.counted.specs.Joins as search
use Rattle.rides.specs.Rows.{Sheet, Joins, first_of, first_at, direct_row, change_row, direct_by, change_by, network_of}
use Rattle.rides.specs.Loops.{later_from, over_bits, last_at, last_alight_rows, direct_at, direct_rows}
use Rattle.rides.specs.Sheets.{joins_of, sheet_of}
use Rattle.limited_rides.specs.Runs.{RowEvent}
use Rattle.limited_rides.specs.RowEvents.{run_events, call_events, ride_events}
use Rattle.limited_rides.specs.RowEvents.{board_events, change_events, first_events, row_events, events_at, EventsByLoops}

-- what is listed for each ride, as loops over the calls list it
pub over-rides : {C A : Type 0} (N : Network C) (g : Leg C → List A) (s : List C)
    → concat_map g (rides N s) ≡ over_tails (λ b later. cond (N.board b) (listed.over_run N (λ a. g (leg b a)) b later) []) s
unfolding rides
over-rides {C} {A} N g s =
    flat-tails g (λ b later. cond (N.board b) (map (leg b) (alightings N b later)) []) s
    ∙ tails-agree _ (λ b later. cond (N.board b) (listed.over_run N (λ a. g (leg b a)) b later) []) s (λ b later t. each b later)
  where
    each : (b : C) (later : List C)
        → concat_map g (cond (N.board b) (map (leg b) (alightings N b later)) [])
        ≡ cond (N.board b) (listed.over_run N (λ a. g (leg b a)) b later) []
    each b later =
        flat-cond (N.board b) g (map (leg b) (alightings N b later))
        ∙ ap (λ (r : List A). cond (N.board b) r [])
        (concat_map-map (leg b) g (alightings N b later) ∙ concat_map-filterb N.alight (λ a. g (leg b a)) (take_while (N.same b) later))

module _ (s : Sheet) (joins : Joins) (free : (i o k j : ℕ) → joins (first_of s i o k) j ≡ joins (first_of s i 0 k) j) (depth n : ℕ) where
  calls_by : (f g : ℕ → List RowEvent) → ((i : ℕ) → f i ≡ g i) → concat_map f (span 0 n) ≡ call_events g n 0
  unfolding call_events
  calls_by f g e =
      let q : n ≡ n - 0 = omega arith in
      concat_map-cong f g e (span 0 n) ∙ ap (λ (m : ℕ). concat_map g (span 0 m)) q

  module _ (i o k : ℕ) where
    direct-rows : directs (network_of s joins) (direct_by s) (change_by s) (first_ride o i k) ≡ direct_rows s (first_of s i o k)
    unfolding directs direct_rows direct_at network_of over_bits first_of
    direct-rows = sym (flat-single (direct_row s (first_of s i o k)) (bits_of (s.targets (s.at k).stop)))

    join-at : ℕ → ℕ → List RowEvent
    join-at j m = search.join_events (network_of s joins) (direct_by s) (change_by s) (first_ride o i k) (leg j m)

    last-events : (j m : ℕ) → cond (s.at m).alight (join-at j m) [] ≡ ride_events s joins (first_of s i o k) j m
    unfolding join-at search.join_events ride_events last_alight_rows last_at network_of over_bits first_of
    last-events j m = rw (← free i o k j) (go (joins (first_of s i o k) j) (s.at m).alight)
      where
        rows : List Row
        rows = map (change_row s (first_of s i o k) j m) (bits_of (s.targets (s.at m).stop))

        go : (c a : Bool) → cond a (tested (join_of (first_ride o i k) (leg j m)) ∷ map offered (cond c rows [])) []
            ≡ cond a (tested (join_of (first_ride o i k) (leg j m)) ∷ map offered
            (cond c (cond a (concat_map (λ x. change_row s (first_of s i o k) j m x ∷ []) (bits_of (s.targets (s.at m).stop))) []) [])) []
        go true true =
            ap (λ (r : List Row). tested (join_of (first_ride o i k) (leg j m)) ∷ map offered r)
            (sym (flat-single (change_row s (first_of s i o k) j m) (bits_of (s.targets (s.at m).stop))))
        go false true = refl
        go c false = refl

    board-events : (j : ℕ)
        → cond ((network_of s joins).board j) (listed.over_run (network_of s joins) (λ m. join-at j m) j (span (j + 1) (n - (j + 1)))) []
        ≡ board_events s joins n (first_of s i o k) j
    unfolding board_events network_of run_events later_from
    board-events j =
        ap (λ (r : List RowEvent). cond (s.at j).board r [])
        (concat_map-cong _ (ride_events s joins (first_of s i o k) j) (last-events j)
        (take_while (λ m. same_run (s.at j) (s.at m)) (span (j + 1) (n - (j + 1)))))

    change-events : cond (eqb depth 1)
        (search.change_events (network_of s joins) (direct_by s) (change_by s) (span 0 n) (first_ride o i k)) []
        ≡ change_events s joins depth n (first_of s i o k)
    unfolding search.change_events change_events join-at
    change-events =
        ap (λ (r : List RowEvent). cond (eqb depth 1) r [])
        (over-rides (network_of s joins) (search.join_events (network_of s joins) (direct_by s) (change_by s) (first_ride o i k)) (span 0 n)
        ∙ tails-span _ n n 0 (omega arith) ∙ calls_by _ (board_events s joins n (first_of s i o k)) board-events)

  -- a join reads no origin: the loops come to every event, in order
  by_loops : events (network_of s joins) (direct_by s) (change_by s) depth (span 0 n) ≡ row_events s joins depth n
  unfolding events row_events first_events
  by_loops =
      concat_map-cong _ (λ f. first_events s joins depth n (first_at s f))
      (λ f. rw (direct-rows f.ride.b f.o f.ride.a, change-events f.ride.b f.o f.ride.a) refl) (first_rides (network_of s joins) (span 0 n))

pub events-by-loops : EventsByLoops
unfolding events_at joins_of joined first_of
events-by-loops f g n depth = by_loops (sheet_of f) (joins_of f g) (λ i o k j. refl) depth (min n 512)
