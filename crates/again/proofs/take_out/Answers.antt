-- 9, 24, or the table without the call.
use mathlib.Core.Path.{◌≡◌, refl, sym, ap, ◌∙◌}
use native.Mathlib.Omega.{arith}
use Prim.Native.Nat.{ℕ, suc, ◌-◌}
use Rattle.calls.specs.Tables.{blank_call}
use Rattle.withdrawal.specs.Removal.{counted, last_of, closed_up, has_key}
use Rattle.again.proofs.CodeLaws.{out-unknown, out_none, out-there, counted as one-counted}
use Rattle.again.proofs.take_out.Goals as goal

pub returns-in_default : goal.returns-in_default
returns-in_default c =
    let a = c.args in
    out_none a.load.now a.key _ (sym (ap counted c.in_default.is) ∙ c.last_of.ensures ∙ ap (last_of (has_key a.key)) c.first-held.ensures)
    (sym c.is_known.ensures ∙ c.if-is_known.true) refl

pub overflow_sub-load : goal.overflow_sub-load
overflow_sub-load c =
    let a = c.args in
    one-counted a.load.now a.key _ (sym (ap counted c.in-Some.is) ∙ c.last_of.ensures ∙ ap (last_of (has_key a.key)) c.first-held.ensures)
    (λ q. omega (arith, q))

pub returns-then-is_known : goal.returns-then-is_known
returns-then-is_known c =
    let a = c.args in
    let less : suc c.in-Some.place - 1 ≡ c.in-Some.place = omega arith in
    out-there a.load.now a.key (suc c.in-Some.place) _
    (sym (ap counted c.in-Some.is) ∙ c.last_of.ensures ∙ ap (last_of (has_key a.key)) c.first-held.ensures)
    (sym c.is_known.ensures ∙ c.if-is_known.true) (λ q. omega (arith, q))
    (c.close_up.ensures ∙ ap (λ (n : ℕ). closed_up blank_call n a.load.now.calls) (sym less))

pub returns : goal.returns
returns c = out-unknown c.args.load.now c.args.key (sym c.is_known.ensures ∙ c.if-is_known.false)
