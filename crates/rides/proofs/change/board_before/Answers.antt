-- `board_before` meets its contract: the run's later calls, if one of them is early enough and the first ride joins them.
use Rattle.std.proofs.Common.{arith}
use Rattle.rides.specs.Loops.{last_board_rows}
use Rattle.rides.specs.Sheets.{sheet_of}
use Rattle.rides.proofs.LoopLaws.{on-board, off-board}
use Rattle.rides.proofs.OverLaws.{board-out}
use Rattle.rides.proofs.change.board_before.Goals as goal

pub returns-then-over-bound : goal.returns-then-over-bound
returns-then-over-bound c =
    board-out _ _ _ _ _ (omega (arith, c.bound.ensures, c.if-over-bound.true)) (c.args.last.now.bounded.board _ c.requires.0) c.requires.1

pub returns-then-can_board : goal.returns-then-can_board
unfolding last_board_rows sheet_of
returns-then-can_board c =
    let w = c.run_before.ensures in
    record { offered = on-board _ _ _ _ _ c.can_board.ensures c.if-can_board.true w.offered; over = w.over }

pub returns : goal.returns
unfolding last_board_rows sheet_of
returns c = record { offered = off-board _ _ _ _ _ c.can_board.ensures c.if-can_board.false; over = c.requires.1 }
