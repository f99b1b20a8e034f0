-- `too_late` meets its contract: refused, or due after the horizon.
use Rattle.search_state.proofs.ViewLaws.{late-refused, late-open}
use Rattle.search_state.proofs.too_late.Goals as goal

pub returns-then-is_refused : goal.returns-then-is_refused
returns-then-is_refused c = late-refused _ _ c.is_refused.ensures c.if-is_refused.true

pub returns-else-is_refused : goal.returns-else-is_refused
returns-else-is_refused c = late-open _ _ c.is_refused.ensures c.if-is_refused.false c.horizon.ensures
