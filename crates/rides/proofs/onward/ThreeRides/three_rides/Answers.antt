-- `three_rides` meets its contract: every ride that the first one joins; none is walked if all would be passed over.
use Rattle.std.proofs.Common.{arith}
use Rattle.rides.proofs.OnwardLaws.{onward-out}
use Rattle.rides.proofs.RestLaws.{seen_first}
use Rattle.rides.proofs.onward.ThreeRides.three_rides.Goals as goal

pub returns-then-passed-t : goal.returns-then-passed-t
returns-then-passed-t c =
    let p = c.requires in
    record {
      offered = onward-out _ _ _ _ c.args.self.now.on_time p.1 2 _ _ c.args.r (omega arith) p.0 c.time_on-t.ensures c.if-passed-t.true;
      over = p.1;
    }

pub returns-then-passed-t-2 : goal.returns-then-passed-t-2
returns-then-passed-t-2 c =
    let e = c.asked_for-passed.ensures in
    record {
      offered =
          seen_first e.state
          (onward-out _ _ _ _ c.args.self.now.on_time e.over 2 _ _ c.args.r (omega arith) c.requires.0 c.time_on-t.ensures
          c.if-passed-t-2.true);
      over = e.over;
    }

pub rides_on-from-requires : goal.rides_on-from-requires
rides_on-from-requires c = (omega arith, c.requires.0, c.asked_for-passed.ensures.over)

pub returns : goal.returns
returns c =
    let w = c.rides_on-from.ensures in
    record { offered = seen_first c.asked_for-passed.ensures.state w.offered; over = w.over }
