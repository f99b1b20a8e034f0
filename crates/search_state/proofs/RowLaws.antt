-- The rows of a number array.
use mathlib.Core.Path.{◌≡◌, sym, ◌∙◌}
use mathlib.Core.List.{List}
use Prim.Native.Nat.{ℕ, ◌≤◌, ◌<◌}
use native.Mathlib.Omega.{arith}
use lib.ListN.{length, get_or, get_or-eq_default}
use Rattle.laws.proofs.Tables.{length-table, get_d-table}
use Rattle.profile.specs.Found.{Row}
use Rattle.profile.specs.Journeys.{no_row}
use Rattle.search_state.specs.Layout.{slots}
use Rattle.search_state.specs.View.{row_at, rows}

pub rows-length : (l : List ℕ) → length (rows l) ≡ slots
unfolding rows
rows-length l = length-table (row_at l) slots

pub rows_get : (l : List ℕ) (i : ℕ) → i < slots → get_or (rows l) i no_row ≡ row_at l i
unfolding rows
rows_get l i h = get_d-table (row_at l) no_row slots i h

-- a row read out of its slot, and past the slots the blank row
pub row_in : (l : List ℕ) (i : ℕ) (r : Row) → i < slots → r ≡ row_at l i → r ≡ get_or (rows l) i no_row
row_in l i r h e = e ∙ sym (rows_get l i h)

pub row-past : (l : List ℕ) (i : ℕ) (r : Row) → slots ≤ i → r ≡ no_row → r ≡ get_or (rows l) i no_row
row-past l i r h e = e ∙ sym (get_or-eq_default (rows l) no_row {n = i} (omega (arith, rows-length l)))

-- and back
pub row-got : (l : List ℕ) (i : ℕ) (r : Row) → i < slots → r ≡ get_or (rows l) i no_row → r ≡ row_at l i
row-got l i r h e = e ∙ rows_get l i h
