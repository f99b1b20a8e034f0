-- How many journeys are kept, and the least horizon. Named here once, and in the code in `lib.rt`.
use Rattle.std.specs.Prelude.{ℕ}

-- one more makes the horizon fall
abbrev pub kept_room : ℕ
kept_room = 64

-- no horizon falls below it, six hours being the first
abbrev pub least_horizon : ℕ
least_horizon = 3600
