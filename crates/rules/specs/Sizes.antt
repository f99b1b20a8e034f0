-- How many rules a load holds. Named here once, and in the code in `lib.rt`.
use Rattle.std.specs.Prelude.{ℕ}

abbrev pub rule_room : ℕ
rule_room = 128
