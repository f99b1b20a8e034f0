-- Stop after stop.
use mathlib.Core.Path.{◌≡◌, refl, ap, ◌∙◌}
use native.Mathlib.Omega.{arith}
use lib.ListN.{length}
use Rattle.laws.proofs.Bounds.{get_d_any}
use Rattle.stops.specs.declared.Stop.{Stop}
use Rattle.stops.specs.Sound.{stop_at}
use Rattle.stops.specs.Taken.{blank_stop}
use Rattle.stops.proofs.Texts.{past}
use Rattle.search_input_array.specs.Feeds.{masked_of}
use Rattle.laws.proofs.Regions.{region-none, region-more, region-all}
use Rattle.search_input_array.proofs.put_members.Goals as goal

pub loop-k-init : goal.loop-k-init
loop-k-init c = region-none _ _ _

pub loop-k-preserved : goal.loop-k-preserved
unfolding stop_at
loop-k-preserved c =
    let a = c.args in
    let n : length a.stops.now ≡ 128 = c.told-stops in
    let e = ap (λ (s : Stop). masked_of a.origins a.targets s.members) (get_d_any a.stops.now c.loop-k.k past blank_stop (omega arith)) in
    region-more _ 3072 _ c.loop-k.feed c.loop-k.k _ c.loop-k.invariant (omega arith) (c.masked_of.ensures ∙ e)

pub returns : goal.returns
returns c = region-all _ _ _ c.loop-k.feed _ c.loop-k.k 128 c.loop-k.invariant (omega arith) refl
