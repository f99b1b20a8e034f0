-- The functions of the cycle meet their contracts.
use Rattle.std.proofs.Common.{refl, arith, ◌≤◌, ◌<◌}
use Rattle.search_input.specs.Feed.{call_at}
use Rattle.rides.specs.Reach.{block_end, BlockAt}
use Rattle.rides.specs.Sheets.{sheet_of}
use Rattle.rides.specs.Loops.{over_calls, over_run, onward_rows, alight_on, board_on}
use Rattle.rides.proofs.LoopLaws.{unalighted, on-board, off-board, run-end, run-next, run-on, later-has}
use Rattle.rides.proofs.RestLaws.{rest-same, rest-turn, rest-none, block-turn, calls-turn, calls-none}
use Rattle.rides.proofs.OverLaws.{rest-out}
use Rattle.rides.proofs.OnwardLaws.{alight-is, alight-out, before-any, board-out, calls-out, fewer, rest-on-out, row-on, run-out, run-self}
use Rattle.rides.proofs.onward.ThreeRides.+onward.Goals as goal

pub alight_on-returns-then-over-time_on : goal.alight_on-returns-then-over-time_on
alight_on-returns-then-over-time_on t c =
    let q = c.requires in
    alight-out _ _ _ _ c.args.self.now.on_time q.2 _ _ _ _ _ q.0 q.1.within q.1.same c.time_on.ensures c.if-over-time_on.true

pub alight_on-onward-requires : goal.alight_on-onward-requires
alight_on-onward-requires t c =
    let q = c.requires in
    (omega arith, (q.0, record { run = q.1; alights = alight-is _ _ c.at.ensures c.if-at.true }, q.2))

pub alight_on-returns-then-at : goal.alight_on-returns-then-at
unfolding alight_on sheet_of
alight_on-returns-then-at t c = rw (← c.at.ensures, c.if-at.true) c.onward.ensures

pub alight_on-returns : goal.alight_on-returns
unfolding alight_on sheet_of
alight_on-returns t c = record { offered = unalighted _ _ _ c.at.ensures c.if-at.false; over = c.requires.2 }

pub run_on-loop-over-init : goal.run_on-loop-over-init
run_on-loop-over-init t c = (c.requires.1, run-self _, rest-same refl, c.requires.2)

pub run_on-invariant_of-q : goal.run_on-invariant_of-q
run_on-invariant_of-q t c =
    let h = run-next (call_at c.args.self.now.lent.calls.feed.now) _ _ c.goes_on.ensures c.if-goes_on.true in
    record { placed = (omega (arith, c.requires.1, c.args.self.now.lent.calls.fits), omega (arith, h, c.args.self.now.lent.calls.fits)) }

pub run_on-alight_on-over-requires : goal.run_on-alight_on-over-requires
run_on-alight_on-over-requires t c =
    let i = c.loop-over.invariant in
    let h = later-has _ (run-on _ _ _ c.goes_on.ensures c.if-goes_on.true) i.2 in
    (omega arith, (c.requires.0, record { within = h.within; same = h.same }, i.3))

pub run_on-loop-over-preserved : goal.run_on-loop-over-preserved
run_on-loop-over-preserved t c =
    let i = c.loop-over.invariant in
    let h = later-has _ (run-on _ _ _ c.goes_on.ensures c.if-goes_on.true) i.2 in
    let w = c.alight_on-over.ensures in
    (h.within, h.same, rest-turn (run-on _ _ _ c.goes_on.ensures c.if-goes_on.true) i.2 w.offered, w.over)

pub run_on-returns-else-goes_on : goal.run_on-returns-else-goes_on
unfolding over_run
run_on-returns-else-goes_on t c =
    let i = c.loop-over.invariant in
    record { offered = rest-none (run-end _ _ _ c.goes_on.ensures c.if-goes_on.false) i.2; over = i.3 }

pub run_on-returns : goal.run_on-returns
unfolding over_run
run_on-returns t c =
    let i = c.loop-over.invariant in
    record {
      offered =
          rest-out
          (run-out _ _ _ _ c.args.self.now.on_time i.3 _ _ _ _ _ c.requires.0 i.0 i.1 c.time_from.ensures c.loop-over-test.false) i.2;
      over = i.3;
    }

pub board_on-returns-then-over-time_from : goal.board_on-returns-then-over-time_from
board_on-returns-then-over-time_from t c =
    let q = c.requires in
    board-out _ _ _ _ c.args.self.now.on_time q.2 _ _ _ _ _ q.0 q.1 c.time_from.ensures c.if-over-time_from.true

pub board_on-returns-then-can_board : goal.board_on-returns-then-can_board
unfolding board_on sheet_of
board_on-returns-then-can_board t c =
    let w = c.run_on.ensures in
    record { offered = on-board _ _ _ _ _ c.can_board.ensures c.if-can_board.true w.offered; over = w.over }

pub board_on-returns : goal.board_on-returns
unfolding board_on sheet_of
board_on-returns t c =
    record { offered = off-board _ _ _ _ _ c.can_board.ensures c.if-can_board.false; over = c.requires.2 }

pub block_on-loop-c-init : goal.block_on-loop-c-init
block_on-loop-c-init t c = (rest-same refl, c.requires.3)

pub block_on-returns-then-over-t : goal.block_on-returns-then-over-t
unfolding over_calls
block_on-returns-then-over-t t c =
    let i = c.loop-c.invariant in
    let q = c.requires in
    record {
      offered =
          rest-out
          (calls-out _ _ _ _ c.args.self.now.on_time i.1 _ _ _ _ _ _ q.0 (omega arith) c.if-over-t.true (omega arith) q.2) i.0;
      over = i.1;
    }

pub block_on-board_on-over-requires : goal.block_on-board_on-over-requires
block_on-board_on-over-requires t c = (omega arith, (c.requires.0, omega (arith, c.loop-c-test.true), c.loop-c.invariant.1))

pub block_on-loop-c-preserved : goal.block_on-loop-c-preserved
block_on-loop-c-preserved t c =
    let w = c.board_on-over.ensures in
    let h : c.loop-c.c < block_end c.args.self.now.lent.calls.n c.args.from =
    omega (arith, c.block_end-c-end.ensures, c.loop-c-test.true) in
    (calls-turn h c.loop-c.invariant.0 w.offered, w.over)

pub block_on-returns : goal.block_on-returns
unfolding over_calls
block_on-returns t c =
    let h : block_end c.args.self.now.lent.calls.n c.args.from ≤ c.loop-c.c =
    omega (arith, c.block_end-c-end.ensures, c.loop-c-test.false) in
    record { offered = calls-none h c.loop-c.invariant.0; over = c.loop-c.invariant.1 }

pub rides_on-loop-b-init : goal.rides_on-loop-b-init
rides_on-loop-b-init t c = (rest-same refl, c.requires.2)

pub rides_on-returns-then-over-least : goal.rides_on-returns-then-over-least
rides_on-returns-then-over-least t c =
    let i = c.loop-b.invariant in
    let q = c.requires in
    record {
      offered =
          rest-on-out _ _ _ _ c.args.self.now.on_time i.1 _ c.args.r _ q.0 q.1 c.first_ride-p.ensures c.time_on-least.ensures
          c.if-over-least.true i.0;
      over = i.1;
    }

pub rides_on-block_on-over-requires : goal.rides_on-block_on-over-requires
unfolding BlockAt
rides_on-block_on-over-requires t c =
    let q = c.requires in
    let g = row-on _ _ _ c.args.f c.args.self.now.on_time _ c.args.r q.0 q.1 c.first_ride-p.ensures c.row-row.ensures in
    (omega arith, (q.0, omega (arith, c.loop-b-test.true), g.each _ (omega arith) c.loop-b-test.true, c.loop-b.invariant.1))

pub rides_on-loop-b-preserved : goal.rides_on-loop-b-preserved
unfolding over_calls
rides_on-loop-b-preserved t c =
    let w = c.block_on-over.ensures in
    (block-turn _ _ _ _ (omega arith) c.loop-b.invariant.0 w.offered, w.over)

pub rides_on-returns : goal.rides_on-returns
unfolding over_calls
rides_on-returns t c =
    let i = c.loop-b.invariant in
    record {
      offered =
          rw (fewer _ _ _ _ _ _ _ _ c.first_ride-p.ensures)
          (calls-none (omega (arith, c.args.self.now.lent.calls.fits, c.loop-b-test.false)) i.0);
      over = i.1;
    }

pub onward-returns-then-left-eq0 : goal.onward-returns-then-left-eq0
unfolding onward_rows sheet_of
onward-returns-then-left-eq0 t c = rw (c.if-left-eq0.true, ← c.at.ensures, ← c.targets.ensures) c.ends_before.ensures

pub onward-returns : goal.onward-returns
onward-returns t c = rw (before-any _ _ _ _ _ _ _ _ _ c.if-left-eq0.false) c.rides_on.ensures
