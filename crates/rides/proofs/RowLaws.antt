-- The loops offer the rows: loop by loop, from the innermost; by one ride or two.
use mathlib.Core.Path.{◌≡◌, refl, sym, ap, ◌∙◌}
use mathlib.Core.Bool.{false, cond}
use mathlib.Core.List.{List, [], map}
use Prim.Native.Nat.{ℕ, ◌+◌, ◌-◌, min}
use native.Mathlib.Omega.{arith}
use lib.Dec.{eqb}
use Rattle.laws.specs.Lists.{concat_map, take_while, span}
use Rattle.laws.specs.Bits.{bits_of}
use Rattle.laws.proofs.Flat.{flat-single}
use Rattle.laws.proofs.Places.{concat_map-cong, tails-span}
use Rattle.ways.specs.Rides.{leg, first_ride, first_rides, directs, changes, journeys}
use Rattle.ways.proofs.RideLaws.{over-firsts, over-joined}
use Rattle.profile.specs.Found.{Row}
use Rattle.search_input.specs.Feed.{same_run, joined}
use Rattle.rides.specs.Rows.{Sheet, Joins, first_of, first_at, direct_row, change_row, direct_by, change_by, network_of, rows}
use Rattle.rides.specs.Loops.{over_bits, over_calls, later_from, over_run}
use Rattle.rides.specs.Loops.{last_at, last_alight_rows, last_board_rows, change_rows, direct_at, direct_rows, first_rows_of, pass_rows}
use Rattle.rides.specs.Sheets.{joins_of, sheet_of}
use Rattle.ways.proofs.RideLaws as listed

pub calls_by : (n : ℕ) (f g : ℕ → List Row) → ((i : ℕ) → f i ≡ g i) → concat_map f (span 0 n) ≡ over_calls g n 0
unfolding over_calls
calls_by n f g e =
    let q : n ≡ n - 0 = omega arith in
    concat_map-cong f g e (span 0 n) ∙ ap (λ (m : ℕ). concat_map g (span 0 m)) q

-- ---- up to two rides

module _ (s : Sheet) (joins : Joins) (free : (i o k j : ℕ) → joins (first_of s i o k) j ≡ joins (first_of s i 0 k) j) (depth n : ℕ) where
  module _ (i o k : ℕ) where
    direct-rows : directs (network_of s joins) (direct_by s) (change_by s) (first_ride o i k) ≡ direct_rows s (first_of s i o k)
    unfolding directs direct_rows direct_at network_of over_bits first_of
    direct-rows = sym (flat-single (direct_row s (first_of s i o k)) (bits_of (s.targets (s.at k).stop)))

    last-rows : (j m : ℕ)
        → cond (s.at m).alight (map (change_by s (first_ride o i k) (leg j m)) ((network_of s joins).targets m)) []
        ≡ last_alight_rows s (first_of s i o k) j m
    unfolding last_alight_rows last_at network_of over_bits
    last-rows j m =
        ap (λ (r : List Row). cond (s.at m).alight r [])
        (sym (flat-single (change_row s (first_of s i o k) j m) (bits_of (s.targets (s.at m).stop))))

    board-rows : (j : ℕ) → cond ((network_of s joins).board j) (cond ((network_of s joins).joins (leg i k) j)
        (listed.over_run (network_of s joins) (λ m. map (change_by s (first_ride o i k) (leg j m)) ((network_of s joins).targets m)) j
        (span (j + 1) (n - (j + 1)))) []) []
        ≡ last_board_rows s joins n (first_of s i o k) j
    unfolding last_board_rows network_of over_run later_from
    board-rows j =
        rw (← free i o k j)
        (ap (λ (r : List Row). cond (s.at j).board (cond (joins (first_of s i o k) j) r []) [])
        (concat_map-cong _ (last_alight_rows s (first_of s i o k) j) (last-rows j)
        (take_while (λ m. same_run (s.at j) (s.at m)) (span (j + 1) (n - (j + 1))))))

    change-rows : cond (eqb depth 1) (changes (network_of s joins) (direct_by s) (change_by s) (span 0 n) (first_ride o i k)) []
        ≡ change_rows s joins depth n (first_of s i o k)
    unfolding changes change_rows
    change-rows =
        ap (λ (r : List Row). cond (eqb depth 1) r [])
        (over-joined (network_of s joins) (λ l. map (change_by s (first_ride o i k) l) ((network_of s joins).targets l.a)) (span 0 n)
        (leg i k)
        ∙ tails-span _ n n 0 (omega arith) ∙ calls_by n _ (last_board_rows s joins n (first_of s i o k)) board-rows)

  -- a join reads no origin: the loops offer every row, in order
  pub rows-by-loops : eqb depth 2 ≡ false → rows s joins depth n ≡ pass_rows s joins depth n
  unfolding rows journeys pass_rows first_rows_of
  rows-by-loops z =
      concat_map-cong _ (λ f. first_rows_of s joins depth n (first_at s f) f.ride.b f.ride.a)
      (λ f. rw (z, direct-rows f.ride.b f.o f.ride.a, change-rows f.ride.b f.o f.ride.a) refl) (first_rides (network_of s joins) (span 0 n))

pub rows-of-loops : (f g : List ℕ) (n depth : ℕ) → eqb depth 2 ≡ false
    → rows (sheet_of f) (joins_of f g) depth (min n 512) ≡ pass_rows (sheet_of f) (joins_of f g) depth (min n 512)
unfolding joins_of joined first_of
rows-of-loops f g n depth z = rows-by-loops (sheet_of f) (joins_of f g) (λ i o k j. refl) depth (min n 512) z
