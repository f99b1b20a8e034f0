-- On a dated load a call of the empty name. Else the short way where nothing is cut, and the way by the table.
use mathlib.Core.Path.{refl, sym, ◌∙◌}
use mathlib.Core.List.{[]}
use native.Mathlib.Omega.{arith}
use Rattle.load.proofs.StepLaws.{call-room, call-goes-in, call-outside, call-dated, call-undated}
use Rattle.load.proofs.Load.take_call.Goals as goal

pub returns-then-is_some : goal.returns-then-is_some
returns-then-is_some c = c.take_dated.ensures ∙ call-dated c.args.self.now [] _ (sym c.is_some.ensures ∙ c.if-is_some.true) _ refl

pub offset_bounds-self-at : goal.offset_bounds-self-at
offset_bounds-self-at c = omega (arith, call-room c.args.self.now _ _ (sym c.uncut-told.ensures ∙ c.in-In.is))

pub bounds-self-at : goal.bounds-self-at
bounds-self-at c = call-room c.args.self.now _ _ (sym c.uncut-told.ensures ∙ c.in-In.is)

pub overflow_add-self : goal.overflow_add-self
overflow_add-self c = omega (arith, call-room c.args.self.now _ _ (sym c.uncut-told.ensures ∙ c.in-In.is))

pub returns-in-In : goal.returns-in-In
returns-in-In c =
    sym (call-goes-in c.args.self.now _ _ (sym c.uncut-told.ensures ∙ c.in-In.is))
    ∙ call-undated c.args.self.now [] _ (sym c.is_some.ensures ∙ c.if-is_some.false)

pub returns-in-Outside : goal.returns-in-Outside
returns-in-Outside c =
    sym (call-outside c.args.self.now _ (sym c.uncut-told.ensures ∙ c.in-Outside.is))
    ∙ call-undated c.args.self.now [] _ (sym c.is_some.ensures ∙ c.if-is_some.false)

pub returns-in-Other : goal.returns-in-Other
returns-in-Other c =
    c.take_by_cuts.ensures ∙ call-undated c.args.self.now [] _ (sym c.is_some.ensures ∙ c.if-is_some.false)
