-- By the week: dated or not.
use mathlib.Core.Path.{refl, sym, ◌∙◌}
use Rattle.load.proofs.StepLaws.{call-dated, call-undated}
use Rattle.load.proofs.Load.take_call_of.Goals as goal

pub returns-then-is_some : goal.returns-then-is_some
returns-then-is_some c = let a = c.args in c.take_dated.ensures ∙ call-dated a.self.now _ _ (sym c.is_some.ensures ∙ c.if-is_some.true) _ refl

pub returns : goal.returns
returns c =
    let a = c.args in
    c.take_call.ensures ∙ sym (call-undated a.self.now _ _ (sym c.is_some.ensures ∙ c.if-is_some.false))
    ∙ call-undated a.self.now _ _ (sym c.is_some.ensures ∙ c.if-is_some.false)
