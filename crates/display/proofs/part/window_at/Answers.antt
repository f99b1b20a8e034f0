-- A second before the arrival of the first that doesn't fit, or the horizon.
use mathlib.Core.Path.{ap, ◌∙◌}
use Prim.Native.Nat.{◌-◌}
use Rattle.profile.specs.declared.Journey.{Journey}
use Rattle.display.proofs.PartLaws.{window-cut, window-all}
use Rattle.display.proofs.part.window_at.Goals as goal

pub returns-in-Some : goal.returns-in-Some
returns-in-Some c =
    let l = c.in-Some.ensures.lookup in
    c.saturating_sub.ensures ∙ ap (λ (j : Journey). j.arrival - 1) l.1 ∙ window-cut c.args.list.now c.args.share c.args.horizon _ l.3.0

pub returns-in-None : goal.returns-in-None
returns-in-None c = window-all c.args.list.now c.args.share c.args.horizon c.in-None.ensures.lookup.3
