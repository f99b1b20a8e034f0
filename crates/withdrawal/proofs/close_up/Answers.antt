-- The place is blanked, and the blank goes behind those that stood after it.
use native.Mathlib.Omega.{arith}
use mathlib.Core.Path.{ap, ◌∙◌}
use Rattle.calls.specs.declared.Call.{Call}
use Rattle.withdrawal.specs.Removal.{closed_up}
use Rattle.withdrawal.proofs.RemovalLaws.{closed_by}
use Rattle.withdrawal.proofs.close_up.Goals as goal

pub returns-then-at-lt-CALLS : goal.returns-then-at-lt-CALLS
returns-then-at-lt-CALLS c =
    closed_by c.blank_call.result c.args.at c.args.calls.now _ (omega arith) c.if-at-lt-CALLS.true c.rotate_left.ensures.after
    ∙ ap (λ (b : Call). closed_up b c.args.at c.args.calls.now) c.blank_call.ensures
