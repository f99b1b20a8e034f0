-- The best of the rules read so far.
use lib.Seq.{take_all}
use mathlib.Core.Path.{subst}
use mathlib.Core.List.{List}
use native.Mathlib.Omega.{arith}
use Rattle.rules.specs.declared.Rule.{Rule}
use Rattle.transfer_row.proofs.Reading.{Slots, slots-none, slots-more, slots-all}
use Rattle.transfer_row.proofs.read_rules.Goals as goal

pub loop-rule-init : goal.loop-rule-init
loop-rule-init c = slots-none _ _ _ c.requires

pub loop-rule-preserved : goal.loop-rule-preserved
loop-rule-preserved c =
    let a = c.args in
    slots-more a.from a.parent a.rules.now c.loop-rule.rule-index _ c.loop-rule.best (omega arith) c.loop-rule.invariant c.read_rule.ensures

pub returns : goal.returns
returns c =
    let a = c.args in
    slots-all a.from a.parent a.rules.now c.loop-rule.best
    (subst (λ (l : List Rule). Slots a.from a.parent l c.loop-rule.best)
    (take_all c.loop-rule.rule-index a.rules.now (omega arith)) c.loop-rule.invariant)
