-- The changes of what is lent.
use Rattle.std.specs.Prelude.{Bool, List, ℕ, get_or, Option}
use Rattle.transfer.specs.declared.Ends.{Ends}
use Rattle.transfer.specs.declared.Transfers.{Transfers}
use Rattle.transfer.specs.Changes.{near, transfer_of}
use Rattle.transfer.specs.Rows.{entry_of, change_row}
use Rattle.stops.specs.Sizes.{no_stop}

-- one stop, one parent or one place
abbrev pub near_in : Transfers → Ends → Bool
near_in t e = near e (get_or t.places.now e.from no_stop) (get_or t.places.now e.to no_stop)

-- from one stop to another
abbrev pub between_of : Transfers → ℕ → ℕ → Option ℕ
between_of t from to = transfer_of t.rules.now t.parents.now t.places.now from to t.change

-- the same as a number
abbrev pub entry_in : Transfers → ℕ → ℕ → ℕ
entry_in t from to = entry_of t.rules.now t.parents.now t.places.now from t.change to

-- from a stop to each of 128
abbrev pub row_of : Transfers → ℕ → List ℕ
row_of t from = change_row t.rules.now t.parents.now t.places.now from t.change
