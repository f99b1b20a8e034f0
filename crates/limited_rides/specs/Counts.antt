-- How many rides board at a place, and how many there are. A block of joins that is not walked is its count, which no first ride changes.
use Rattle.std.specs.Prelude.{◌≡◌, cond, List, [], ◌∷◌, ℕ, ◌+◌, ◌-◌, ◌<◌, length, get_or}
use Rattle.laws.specs.Lists.{filterb, span}
use Rattle.search_input.specs.declared.FeedCall.{FeedCall}
use Rattle.search_input.specs.declared.FirstRide.{FirstRide}
use Rattle.search_input.specs.Feed.{call_at}
use Rattle.counted.specs.Events.{joins_in}
use Rattle.rides.specs.Rows.{Sheet, Joins}
use Rattle.rides.specs.Loops.{later_from}
use Rattle.limited_rides.specs.declared.counts.RideCounts.{RideCounts}
use Rattle.limited_rides.specs.RowEvents.{board_events, change_events}

-- the later calls of a run where one can alight
unfoldable pub alights_from : (ℕ → FeedCall) → ℕ → ℕ → ℕ
alights_from at n j = length (filterb (λ m. (at m).alight) (later_from at n j (j + 1)))

unfoldable pub rides_from : (ℕ → FeedCall) → ℕ → ℕ → ℕ
rides_from at n j = cond (at j).board (alights_from at n j) 0

abbrev pub sum_of : (ℕ → ℕ) → List ℕ → ℕ
sum_of g [] = 0
sum_of g (x ∷ xs) = g x + sum_of g xs

unfoldable pub rides_in : (ℕ → FeedCall) → ℕ → ℕ
rides_in at n = sum_of (rides_from at n) (span 0 (n - 0))

-- what the loops ask of the counts
pub record Counts (k : RideCounts) (feed : List ℕ) (n : ℕ) : Type 0 where
  pub board : (j : ℕ) → j < n → get_or k.board j 0 ≡ rides_from (call_at feed) n j
  pub all : k.all ≡ rides_in (call_at feed) n

-- ---- what is claimed

abbrev pub BoardJoins : Type 0
BoardJoins = (s : Sheet) (joins : Joins) (n : ℕ) (f : FirstRide) (j : ℕ) → joins_in (board_events s joins n f j) ≡ rides_from s.at n j

abbrev pub ChangeJoins : Type 0
ChangeJoins = (s : Sheet) (joins : Joins) (n : ℕ) (f : FirstRide) → joins_in (change_events s joins 1 n f) ≡ rides_in s.at n
