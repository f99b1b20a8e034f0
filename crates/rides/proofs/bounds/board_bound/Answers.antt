-- `board_bound` meets its contract: the next call of the run and what is put in for it.
use native.Mathlib.Omega.{arith}
use Rattle.search_input.specs.Feed.{call_at}
use Rattle.rides.proofs.BoundLaws.{board-last, board-next}
use Rattle.rides.proofs.LoopLaws.{run-next}
use Rattle.rides.proofs.bounds.board_bound.Goals as goal

pub alight_bound-requires : goal.alight_bound-requires
alight_bound-requires c =
    let a = c.args in
    let h = run-next (call_at a.calls.now.feed.now) a.calls.now.n a.j c.goes_on.ensures c.if-goes_on.true in
    omega arith

pub returns-then-goes_on : goal.returns-then-goes_on
returns-then-goes_on c =
    board-next _ _ _ _ _ c.goes_on.ensures c.if-goes_on.true c.requires.1 c.alight_bound.ensures c.min.ensures

pub returns : goal.returns
returns c = board-last _ _ _ _ c.goes_on.ensures c.if-goes_on.false
