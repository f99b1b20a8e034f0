-- `change_rides` meets its contract: a loop over the calls, which ends where the search stops.
use Rattle.std.proofs.Common.{refl}
use Rattle.rides.proofs.OverLaws.{over-from}
use Rattle.rides.proofs.RestLaws.{rest-same, calls-turn, calls-none}
use Rattle.limited_rides.specs.RowEvents.{call_events, change_events}
use Rattle.limited_rides.proofs.CountLaws.{board-counted, board-offers}
use Rattle.limited_rides.proofs.RunLaws.{offered-fits, stopped}
use Rattle.limited_rides.proofs.TurnLaws.{rest-stops}
use Rattle.limited_rides.proofs.last.LastJoins.change_rides.Goals as goal

pub loop-j-init : goal.loop-j-init
loop-j-init c = (rest-same refl, over-from c.threshold-over.ensures)

pub board_before-over-requires : goal.board_before-over-requires
board_before-over-requires c = (c.loop-j-test.true, c.loop-j.invariant.1)

pub loop-j-preserved : goal.loop-j-preserved
loop-j-preserved c =
    let w = c.board_before-over.ensures in (
      calls-turn c.loop-j-test.true c.loop-j.invariant.0
          (offered-fits _ c.has_left.ensures c.if-has_left.true (board-counted _ _ _ _ c.args.self.now.counted _ c.loop-j-test.true)
          (rw (board-offers _ _ _ _ _) w.offered) c.spend.ensures),
      w.over,
    )

pub returns-else-has_left : goal.returns-else-has_left
unfolding call_events change_events
returns-else-has_left c =
    rest-stops refl
    (stopped _ c.has_left.ensures c.if-has_left.false (board-counted _ _ _ _ c.args.self.now.counted _ c.loop-j-test.true)
    c.last_board.ensures)
    (calls-turn c.loop-j-test.true c.loop-j.invariant.0 c.last_board.ensures)

pub returns : goal.returns
unfolding call_events change_events
returns c = calls-none c.loop-j-test.false c.loop-j.invariant.0
