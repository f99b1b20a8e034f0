-- The changes from one stop to each of 128, as numbers.
use Rattle.std.specs.Prelude.{List, ℕ}
use Rattle.laws.specs.Tables.{table}
use Rattle.rules.specs.declared.Rule.{Rule}
use Rattle.transfer.specs.Changes.{transfer_of, change_number}
use Rattle.stops.specs.Sizes.{stop_room}

unfoldable pub entry_of : List Rule → List ℕ → List ℕ → ℕ → ℕ → ℕ → ℕ
unfolding transfer_of
entry_of rules parents places from change to = change_number (transfer_of rules parents places from to change)

unfoldable pub change_row : List Rule → List ℕ → List ℕ → ℕ → ℕ → List ℕ
unfolding entry_of
change_row rules parents places from change = table stop_room (entry_of rules parents places from change)
