-- How many calls a table holds, the horizon before any cut, and what is no trip. Named here once, and in the code in `lib.rt`.
use Rattle.std.specs.Prelude.{ℕ}

abbrev pub call_room : ℕ
call_room = 512

-- six hours, in seconds
abbrev pub longest_horizon : ℕ
longest_horizon = 21600

-- trips are below it
abbrev pub no_trip : ℕ
no_trip = 65535
