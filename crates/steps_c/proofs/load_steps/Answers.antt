-- The load after all of them.
use mathlib.Core.Path.{ap, ◌∙◌}
use Prim.Native.Nat.{ℕ}
use Rattle.steps_c.specs.Steps.{with_stop, with_rule, with_call, turns}
use Rattle.steps_c.proofs.TurnLaws.{all-handed}
use Rattle.steps_c.proofs.load_steps.Goals as goal

pub returns : goal.returns
returns c =
    all-handed _ _ _ c.settings.ensures c.open.ensures
    (c.handed-with_stops.ensures with_stop (λ l k r low e. e.1) ∙ ap (λ (n : ℕ). turns n with_stop c.open.result.load) c.from.ensures)
    (c.handed-with_rules.ensures with_rule (λ l k r low e. e.1)
    ∙ ap (λ (n : ℕ). turns n with_rule c.handed-with_stops.result) c.from-2.ensures)
    (c.handed.ensures with_call (λ l k r low e. e.1))
