-- Where what stands in the array of a search: the slots, each of a row's numbers, then four numbers. Named here once, and in the code in
-- `layout.rt`.
use Rattle.std.specs.Prelude.{ℕ, ◌+◌, ◌*◌}
use Rattle.profile.specs.Sizes.{kept_room}

-- how many slots, one of them to spare, and how many numbers a row has
abbrev pub slots : ℕ
slots = kept_room + 1

abbrev pub width : ℕ
width = 12

-- behind the slots: count, horizon, limits, refused; how many numbers in all
abbrev pub count_place : ℕ
count_place = slots * width

abbrev pub horizon_place : ℕ
horizon_place = count_place + 1

abbrev pub limits_place : ℕ
limits_place = count_place + 2

abbrev pub refused_place : ℕ
refused_place = count_place + 3

abbrev pub size : ℕ
size = count_place + 4
