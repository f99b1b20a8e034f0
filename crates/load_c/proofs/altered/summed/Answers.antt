-- What is left to do adds what is left of the sum.
use mathlib.Core.Path.{ap, ◌∙◌}
use native.Mathlib.Omega.{arith}
use Rattle.load.specs.declared.StepResult.{StepResult}
use Rattle.load_c.specs.Searches.{horizon_after}
use Rattle.load_c.proofs.SearchesLaws.{next-turn, last_turn}
use Rattle.load_c.proofs.altered.summed.Goals as goal

pub loop-left-init : goal.loop-left-init
loop-left-init g c = (omega arith, λ f says. omega arith)

pub loop-left-preserved : goal.loop-left-preserved
unfolding horizon_after
loop-left-preserved g c =
    let L = c.loop-left in (
      omega arith,
      λ f says.
          next-turn (horizon_after f) L.left L.next L.sum c.from-sum.result _ (omega arith)
          (c.from-sum.ensures ∙ ap (λ (s : StepResult). s.load.horizon) (says _ _ c.step.ensures)) (L.invariant.1 f says),
    )

pub returns : goal.returns
returns g c = let L = c.loop-left in λ f says. last_turn (horizon_after f) L.left L.next L.sum _ (omega arith) (L.invariant.1 f says)
