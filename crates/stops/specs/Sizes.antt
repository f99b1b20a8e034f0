-- How many stops a load holds, how long a name may be, and the number of no stop. Named here once, and in the code in `lib.rt`.
use Rattle.std.specs.Prelude.{ℕ}

abbrev pub stop_room : ℕ
stop_room = 128

-- so many bytes at most
abbrev pub name_bytes : ℕ
name_bytes = 64

-- what stands for no parent and no place in arrays of numbers
abbrev pub no_stop : ℕ
no_stop = 65535
