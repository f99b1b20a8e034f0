-- `row_at` meets its contract: a slot's row, and past the slots the blank row.
use Rattle.search_state.specs.View.{row_at}
use Rattle.search_state.proofs.RowLaws.{row_in, row-past}
use Rattle.search_state.proofs.row_at.Goals as goal

pub returns-then-i-lt-SLOTS : goal.returns-then-i-lt-SLOTS
unfolding row_at
returns-then-i-lt-SLOTS c = row_in _ _ _ c.if-i-lt-SLOTS.true c.slot_at.ensures

pub returns : goal.returns
returns c = row-past _ _ _ c.if-i-lt-SLOTS.false c.no_row.ensures
