-- `joined_time` meets its contract: what stands there, or what is put in.
use Rattle.std.proofs.Common.{refl, arith}
use Rattle.rides.proofs.JoinedLaws.{least-here, least-blocks, joins-there, row-there}
use Rattle.rides.proofs.ReachLaws.{put-again}
use Rattle.rides.proofs.joined.joined_time.Goals as goal

pub returns-then-joined-m-ne0-clause-time : goal.returns-then-joined-m-ne0-clause-time
returns-then-joined-m-ne0-clause-time c = let p = c.requires in least-here p.0 _ _ refl refl p.1.least

pub returns-clause-array : goal.returns-clause-array
returns-clause-array c =
    let (a, j) = c.requires in
    let g = c.blocks_least-row.ensures in
    let t = least-blocks c.args.last.now.lent.calls.fits g c.row_least-t.ensures in
    record {
      least = put-again _ (omega (arith, a.within)) (joins-there a _ _ refl t) j.least;
      blocks = put-again _ (omega (arith, a.within)) (row-there a _ _ refl g) j.blocks;
    }

pub returns-clause-time : goal.returns-clause-time
returns-clause-time c = least-blocks c.args.last.now.lent.calls.fits c.blocks_least-row.ensures c.row_least-t.ensures
