-- `fresh` meets its contract.
use native.Mathlib.Omega.{arith}
use Rattle.search_state.proofs.ViewLaws.{fresh-view}
use Rattle.search_state.proofs.fresh.Goals as goal

pub returns : goal.returns
returns c = fresh-view _ _ (omega arith)
