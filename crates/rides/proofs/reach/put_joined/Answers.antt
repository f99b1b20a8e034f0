-- `put_joined` meets its contract: a loop over the calls.
use mathlib.Core.Path.{refl}
use native.Mathlib.Omega.{arith}
use Rattle.rides.proofs.JoinedLaws.{joins-row}
use Rattle.rides.proofs.ReachLaws.{none_yet, each-none, put_right, each_to}
use Rattle.rides.proofs.reach.put_joined.Goals as goal

pub loop-m-init : goal.loop-m-init
loop-m-init c = (none_yet _ _ _, each-none _ (omega arith))

pub loop-m-preserved : goal.loop-m-preserved
loop-m-preserved c =
    let i = c.loop-m.invariant in
    let r = c.row_at-row.ensures in (
      put_right _ refl (omega arith) (joins-row _ _ _ _ _ _ c.args.lent.now.calls.fits r c.row_least.ensures) i.0,
      put_right _ refl (omega arith) r i.1,
    )

pub returns-clause-least : goal.returns-clause-least
returns-clause-least c = each_to _ (omega arith) c.loop-m.invariant.0

pub returns-clause-rows : goal.returns-clause-rows
returns-clause-rows c = each_to _ (omega arith) c.loop-m.invariant.1
