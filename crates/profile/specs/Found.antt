-- A journey while the search runs. Its arrival is a number, whatever its width, so here an offer is a row.
use Rattle.std.specs.Prelude.{ℕ}
use Rattle.profile.specs.declared.Found.{Found}

abbrev pub Row : Type 0
Row = Found ℕ
