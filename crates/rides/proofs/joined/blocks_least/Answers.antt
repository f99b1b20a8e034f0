-- `blocks_least` meets its contract: a loop over the blocks.
use mathlib.Core.Path.{refl}
use native.Mathlib.Omega.{arith}
use Rattle.rides.specs.Reach.{BlockAt}
use Rattle.rides.proofs.ReachLaws.{none_yet, put_right, each_to}
use Rattle.rides.proofs.joined.blocks_least.Goals as goal

pub loop-b-init : goal.loop-b-init
loop-b-init c = none_yet _ _ _

pub loop-b-preserved : goal.loop-b-preserved
unfolding BlockAt
loop-b-preserved c = put_right _ refl (omega arith) c.block_least.ensures c.loop-b.invariant

pub returns : goal.returns
returns c = each_to _ (omega arith) c.loop-b.invariant
