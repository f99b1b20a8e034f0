-- `change_rides` meets its contract: every last ride; none is walked if every one would be passed over.
use Rattle.std.proofs.Common.{refl}
use Rattle.rides.specs.Loops.{change_rows}
use Rattle.rides.proofs.JoinedLaws.{least-bucket, least-max, least-here, blocks-here}
use Rattle.rides.proofs.OverLaws.{changes-out}
use Rattle.rides.proofs.RestLaws.{seen_first}
use Rattle.rides.proofs.change.change_rides.Goals as goal

pub returns-then-since-t-clause-rows : goal.returns-then-since-t-clause-rows
returns-then-since-t-clause-rows c =
    let b = c.args.last.now.bounded in
    let p = c.requires in
    record {
      offered =
          changes-out _ _ _ _ _ b.board c.if-since-t.true
          (least-max _ _ _ _ _ c.max-t.ensures (least-bucket _ _ _ _ _ b c.bucket_of.ensures.0 c.bound.ensures)
          (least-here p.0 _ _ refl refl p.1.least))
          p.2;
      over = p.2;
    }

pub returns-then-since-t-2-clause-rows : goal.returns-then-since-t-2-clause-rows
returns-then-since-t-2-clause-rows c =
    let b = c.args.last.now.bounded in
    let p = c.requires in
    let e = c.asked-since.ensures in
    record {
      offered =
          seen_first e.state
          (changes-out _ _ _ _ _ b.board c.if-since-t-2.true
          (least-max _ _ _ _ _ c.max-t.ensures (least-bucket _ _ _ _ _ b c.bucket_of.ensures.0 c.bound.ensures)
          (least-here p.0 _ _ refl refl p.1.least))
          e.two);
      over = e.two;
    }

pub rides_before-two-requires : goal.rides_before-two-requires
rides_before-two-requires c =
    let e = c.joined_time-least.ensures in
    (blocks-here c.requires.0 _ _ refl refl e.array.blocks, e.time, c.asked-since.ensures.two)

pub returns-clause-rows : goal.returns-clause-rows
unfolding change_rows
returns-clause-rows c =
    let w = c.rides_before-two.ensures in
    record { offered = seen_first c.asked-since.ensures.state w.offered; over = w.over }
