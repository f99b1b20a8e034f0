-- How long an id may be. Named here once, and in the code in `lib.rt`.
use Rattle.std.specs.Prelude.{ℕ}

-- so many bytes at most, of a stop's id and of a service's name
abbrev pub id_bytes : ℕ
id_bytes = 32
