-- How many services a load holds. Named here once, and in the code in `lib.rt`.
use Rattle.std.specs.Prelude.{ℕ}

abbrev pub service_room : ℕ
service_room = 64
