-- The load stays, or is the empty one of the settings.
use mathlib.Core.Path.{sym, ◌∙◌}
use Rattle.load.proofs.StepLaws.{reopen-refused, reopen-taken}
use Rattle.load.proofs.Load.reopen.Goals as goal

pub returns-then-is_refused : goal.returns-then-is_refused
returns-then-is_refused c =
    reopen-refused c.args.self.now c.args.settings _ c.settings_answer-answer.ensures (sym c.is_refused.ensures ∙ c.if-is_refused.true)

pub returns : goal.returns
returns c =
    reopen-taken c.args.self.now c.args.settings _ c.settings_answer-answer.ensures (sym c.is_refused.ensures ∙ c.if-is_refused.false)
    _ _ c.canonical.ensures c.undated.ensures _ c.empty.ensures
