-- Where what stands in the two lent arrays. Named here once, and in the code in `layout.rt`.
use Rattle.std.specs.Prelude.{ℕ, ◌+◌, ◌*◌}
pub use Rattle.calls.specs.Sizes.{call_room}
pub use Rattle.stops.specs.Sizes.{stop_room}

-- how many numbers a call has, the calls standing first
abbrev pub call_width : ℕ
call_width = 6

-- behind them the membership bytes of the stops, then the walks of the four origins and those of the four targets
abbrev pub members_place : ℕ
members_place = call_room * call_width

abbrev pub origin_walks_place : ℕ
origin_walks_place = members_place + stop_room

abbrev pub target_walks_place : ℕ
target_walks_place = origin_walks_place + 4

-- how many numbers the changes have
abbrev pub changes_size : ℕ
changes_size = stop_room * stop_room

-- the seconds where there is no change
abbrev pub no_change : ℕ
no_change = 65536
