-- The earliest arrival, walk included, of any ride at a target, by places: what the margin of a stopped search reads.
use Rattle.std.specs.Prelude.{◌≡◌, cond, List, [], ◌∷◌, map, ℕ, ◌+◌, ◌-◌, min, None, Option, Some}
use Rattle.laws.specs.Lists.{concat_map, span}
use Rattle.laws.specs.Bits.{bits_of}
use Rattle.ways.specs.Rides.{rides}
use Rattle.search_input.specs.Feed.{call_at, target_mask, target_walk_of, arrival_of}
use Rattle.rides.specs.Rows.{network_of}
use Rattle.rides.specs.Loops.{later_from}
use Rattle.rides.specs.Sheets.{joins_of, sheet_of}

-- the sooner of two times, either of which may be missing
unfoldable pub sooner : Option ℕ → Option ℕ → Option ℕ
sooner None t = t
sooner (Some x) None = Some x
sooner (Some x) (Some y) = Some (min x y)

-- the least of a list
unfoldable pub soonest : List ℕ → Option ℕ
soonest [] = None
soonest (x ∷ xs) = sooner (Some x) (soonest xs)

-- when one who alights at the time a is at each target of the mask
unfoldable pub target_due : List ℕ → ℕ → ℕ → List ℕ
target_due feed a mask = map (λ x. arrival_of (target_walk_of feed x) a) (bits_of mask)

-- one who alights at place m; one who boards at j and alights later
unfoldable pub alight_due : List ℕ → ℕ → List ℕ
alight_due feed m = cond (call_at feed m).alight (target_due feed (call_at feed m).arrival (target_mask feed (call_at feed m).stop)) []

unfoldable pub later_due : List ℕ → ℕ → ℕ → List ℕ
later_due feed n j = concat_map (alight_due feed) (later_from (call_at feed) n j (j + 1))

unfoldable pub board_due : List ℕ → ℕ → ℕ → List ℕ
board_due feed n j = cond (call_at feed j).board (later_due feed n j) []

-- every ride, by boarding call, alighting call and target
unfoldable pub ride_due : List ℕ → ℕ → List ℕ
ride_due feed n = concat_map (board_due feed n) (span 0 (n - 0))

-- ---- what is claimed: these are the rides of crate `ways`, whatever the changes
abbrev pub DueByRides : Type 0
DueByRides = (feed changes : List ℕ) (n : ℕ)
    → ride_due feed n
    ≡ concat_map (λ r. map (λ x. arrival_of (target_walk_of feed x) (call_at feed r.a).arrival)
    ((network_of (sheet_of feed) (joins_of feed changes)).targets r.a))
    (rides (network_of (sheet_of feed) (joins_of feed changes)) (span 0 n))
