-- Walk after walk.
use mathlib.Core.Path.{refl}
use native.Mathlib.Omega.{arith}
use Rattle.laws.proofs.Regions.{region-none, region-more, region-all}
use Rattle.search_input_array.proofs.put_walks.Goals as goal

pub loop-k-init : goal.loop-k-init
loop-k-init c = region-none _ _ _

pub loop-k-preserved : goal.loop-k-preserved
loop-k-preserved c = region-more _ _ _ c.loop-k.feed c.loop-k.k _ c.loop-k.invariant (omega arith) refl

pub returns : goal.returns
returns c = region-all _ _ _ c.loop-k.feed _ c.loop-k.k 4 c.loop-k.invariant (omega arith) refl
