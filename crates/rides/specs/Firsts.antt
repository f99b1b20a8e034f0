-- The first rides over places, in order, as the iterator goes through them.
use Rattle.std.specs.Prelude.{cond, List, [], ◌++◌, map, ℕ, ◌+◌, ◌-◌, ◌*◌, leb}
use Rattle.laws.specs.Lists.{concat_map, filterb, span}
use Rattle.laws.specs.Bits.{bits_of}
use Rattle.ways.specs.Rides.{First, first_ride}
use Rattle.search_input.specs.Feed.{call_at, origin_mask, origin_walk_of}
use Rattle.rides.specs.Loops.{later_from}
use Rattle.rides.specs.Places.{later_left}
use Rattle.rides.specs.declared.firsts.FirstLeg.{FirstLeg}
use Rattle.rides.specs.declared.firsts.FirstRides.{FirstRides}

abbrev pub leg_of : FirstLeg → First ℕ
leg_of l = first_ride l.origin l.ride.board l.ride.alight

-- from origin o, boarding at i: those that alight at these places
abbrev pub alight_firsts : List ℕ → ℕ → ℕ → List ℕ → List (First ℕ)
alight_firsts feed o i ks = map (first_ride o i) (filterb (λ k. (call_at feed k).alight) ks)

unfoldable pub origin_firsts : List ℕ → ℕ → ℕ → ℕ → List (First ℕ)
origin_firsts feed n i o =
    cond (leb (origin_walk_of feed o * 60) (call_at feed i).departure) (alight_firsts feed o i (later_from (call_at feed) n i (i + 1))) []

-- boarding at i
unfoldable pub board_firsts : List ℕ → ℕ → ℕ → List (First ℕ)
board_firsts feed n i =
    cond (call_at feed i).board (concat_map (origin_firsts feed n i) (bits_of (origin_mask feed (call_at feed i).stop))) []

-- from o those that board at i and alight at ks, then those from os, then those that board at js
abbrev pub firsts_by : List ℕ → ℕ → ℕ → ℕ → List ℕ → List ℕ → List ℕ → List (First ℕ)
firsts_by feed n o i ks os js = alight_firsts feed o i ks ++ (concat_map (origin_firsts feed n i) os ++ concat_map (board_firsts feed n) js)

-- what the iterator has left
abbrev pub firsts_left : FirstRides → List (First ℕ)
firsts_left s =
    firsts_by s.calls.feed.now s.calls.n s.origin s.board (later_left s.later) (bits_of s.origins.left) (span s.next (s.calls.n - s.next))
