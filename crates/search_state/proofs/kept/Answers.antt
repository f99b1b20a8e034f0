-- `kept` meets its contract: a row below the count, and the blank row past it.
use Rattle.search_state.proofs.ViewLaws.{kept_at, kept-past}
use Rattle.search_state.proofs.kept.Goals as goal

pub returns-then-i-count : goal.returns-then-i-count
returns-then-i-count c = kept_at _ _ _ c.count.ensures _ c.if-i-count.true c.row_at.ensures

pub returns : goal.returns
returns c = kept-past _ _ _ c.count.ensures _ c.if-i-count.false c.no_row.ensures
