-- What the loops of a search offer, each from where it stands: the contracts of their functions. That together they offer `rows` is
-- `rows-by-loops`. The join is tested once for each boarding call of a last ride.
use Rattle.std.specs.Prelude.{cond, List, [], ◌∷◌, ◌++◌, ℕ, zero, suc, ◌+◌, ◌-◌, eqb}
use Rattle.laws.specs.Lists.{concat_map, take_while, span}
use Rattle.laws.specs.Bits.{bits_of}
use Rattle.profile.specs.Found.{Row}
use Rattle.search_input.specs.declared.FeedCall.{FeedCall}
use Rattle.search_input.specs.declared.FirstRide.{FirstRide}
use Rattle.search_input.specs.Feed.{same_run}
use Rattle.ways.specs.Rides.{first_rides}
use Rattle.rides.specs.Rows.{Sheet, Joins, first_of, first_at, direct_row, change_row, three_row, network_of}

-- ---- the three ways that a loop goes, each from where it stands

-- the set digits of a mask
unfoldable pub over_bits : (ℕ → List Row) → ℕ → List Row
over_bits g m = concat_map g (bits_of m)

-- the places from i up to n, n left out
unfoldable pub over_calls : (ℕ → List Row) → ℕ → ℕ → List Row
over_calls g n i = concat_map g (span i (n - i))

-- the places from j up to n, as far as their calls are of the trip and day of the call at i
unfoldable pub later_from : (ℕ → FeedCall) → ℕ → ℕ → ℕ → List ℕ
later_from at n i j = take_while (λ k. same_run (at i) (at k)) (span j (n - j))

unfoldable pub over_run : (ℕ → List Row) → (ℕ → FeedCall) → ℕ → ℕ → ℕ → List Row
over_run g at n i j = concat_map g (later_from at n i j)

-- ---- the rows, from the innermost: each names what one turn of a loop offers. n: how many calls there are

unfoldable pub last_at : Sheet → FirstRide → ℕ → ℕ → ℕ → List Row
last_at s f j m x = change_row s f j m x ∷ []

unfoldable pub last_alight_rows : Sheet → FirstRide → ℕ → ℕ → List Row
last_alight_rows s f j m = cond (s.at m).alight (over_bits (last_at s f j m) (s.targets (s.at m).stop)) []

unfoldable pub last_board_rows : Sheet → Joins → ℕ → FirstRide → ℕ → List Row
last_board_rows s joins n f j = cond (s.at j).board (cond (joins f j) (over_run (last_alight_rows s f j) s.at n j (j + 1)) []) []

-- with max_transfers 1, each last ride
unfoldable pub change_rows : Sheet → Joins → ℕ → ℕ → FirstRide → List Row
change_rows s joins depth n f = cond (eqb depth 1) (over_calls (last_board_rows s joins n f) n 0) []

unfoldable pub direct_at : Sheet → FirstRide → ℕ → List Row
direct_at s f x = direct_row s f x ∷ []

unfoldable pub direct_rows : Sheet → FirstRide → List Row
direct_rows s f = over_bits (direct_at s f) (s.targets f.stop)

-- ---- three rides: from the first ride on, with the number of changes left falling by one at each ride

unfoldable pub end_at : Sheet → FirstRide → ℕ → ℕ → ℕ → ℕ → ℕ → List Row
end_at s f b a j m x = three_row s f b a j m x ∷ []

-- what leads on from the ride from j to m, with so many changes left; the ride before it is that from b to a
unfoldable pub onward_rows : ℕ → Sheet → Joins → ℕ → FirstRide → ℕ → ℕ → ℕ → ℕ → List Row
onward_rows zero s joins n f b a j m = over_bits (end_at s f b a j m) (s.targets (s.at m).stop)
onward_rows (suc left) s joins n f b a j m =
    over_calls (λ c. cond (s.at c).board
    (cond (joins (first_of s j 0 m) c)
    (over_run (λ d. cond (s.at d).alight (onward_rows left s joins n f j m c d) []) s.at n c (c + 1)) []) []) n 0

-- the same by pieces: the ride from c to d after that from j to m, which joins as p
unfoldable pub alight_on : ℕ → Sheet → Joins → ℕ → FirstRide → ℕ → ℕ → ℕ → ℕ → List Row
alight_on left s joins n f j m c d = cond (s.at d).alight (onward_rows left s joins n f j m c d) []

unfoldable pub board_on : ℕ → Sheet → Joins → ℕ → FirstRide → FirstRide → ℕ → ℕ → ℕ → List Row
board_on left s joins n f p j m c =
    cond (s.at c).board (cond (joins p c) (over_run (alight_on left s joins n f j m c) s.at n c (c + 1)) []) []

-- ---- of a first ride from i to k: in the pass of three rides those; in the others the direct journeys, then those with a change

unfoldable pub first_rows_of : Sheet → Joins → ℕ → ℕ → FirstRide → ℕ → ℕ → List Row
first_rows_of s joins depth n f i k =
    cond (eqb depth 2) (onward_rows 2 s joins n f 0 0 i k) (direct_rows s f ++ change_rows s joins depth n f)

-- what a pass offers, by first ride
unfoldable pub pass_rows : Sheet → Joins → ℕ → ℕ → List Row
pass_rows s joins depth n =
    concat_map (λ f. first_rows_of s joins depth n (first_at s f) f.ride.b f.ride.a) (first_rides (network_of s joins) (span 0 n))
