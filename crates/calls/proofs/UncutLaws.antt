-- A call step that cuts nothing: what it tells of the step on the table.
use Rattle.refusal.specs.declared.Accepted.TheVariants.{Taken, Outside}
use Rattle.std.specs.Prelude.{None, Option, Some, Err, Ok}
use Prim.Native.Nat.{ℕ, ◌<◌}
use mathlib.Core.Path.{◌≡◌, refl, sym, ap, ◌∙◌}
use mathlib.Core.Bool.{Bool, true, false, cond}
use native.Mathlib.Omega.{arith}
use lib.Dec.{ltb}
use borrow.Author.Tests.{ltb-true}
use Rattle.refusal.specs.First.{first_answer, is_refused, Answer}
use Rattle.settings.specs.declared.Settings.{Settings}
use Rattle.calls.specs.declared.Call.{Call}
use Rattle.calls.specs.declared.CallInput.{CallInput}
use Rattle.calls.specs.Tried.{Tried}
use Rattle.calls.specs.declared.Table.{Table}
use Rattle.calls.specs.declared.Uncut.TheVariants.{In, Outside as Beyond, Other}
use Rattle.calls.specs.Calls.{call_tests, call_time, call_seen, call_fit, call_on}
use Rattle.calls.specs.Tables.{put}
use Rattle.calls.specs.Uncut.{uncut_view, uncut_by, uncut_on, Told, UncutTells}
use Rattle.calls.proofs.CallLaws.{changed, sent-outside}
use Rattle.calls.proofs.FitLaws as fit

module _ (s : Settings) (b : Bool) (n : ℕ) (t : Table) (i : CallInput) where
  told-outside : call_on s b n t i ≡ record { answer = Ok Outside; table = t } → Told s b n t i Beyond
  told-outside x = record {
    room = λ c e. let z : ◌≡◌ {A = ℕ} 0 1 = cc in absurd (omega arith);
    goes_in = λ c e. cc;
    outside = λ e. x;
  }

  told_in : (c : Call) → t.count < 512 → call_on s b n t i ≡ record { answer = Ok Taken; table = put t c } → Told s b n t i (In c)
  told_in c h x = record {
    room = λ d e. h;
    goes_in = λ d e. let same : c ≡ d = cc in x ∙ ap (λ (y : Call). record { answer = Ok Taken; table = put t y }) same;
    outside = λ e. cc;
  }

  told-other : Told s b n t i Other
  told-other = record {
    room = λ c e. let z : ◌≡◌ {A = ℕ} 0 1 = cc in absurd (omega arith);
    goes_in = λ c e. cc;
    outside = λ e. cc;
  }

  -- a call that no test sends back
  on-table : (f : Tried) → first_answer (call_tests b n i) ≡ Ok Taken → f ≡ call_fit s t i → is_refused f.answer ≡ false
      → call_on s b n t i ≡ f
  on-table f q e r = sym (changed s b n t i f (sym q) e r)

  told-view : first_answer (call_tests b n i) ≡ Ok Taken → (v : Option Call) → call_seen s t.horizon i ≡ v
      → Told s b n t i (uncut_view t.count v)
  unfolding call_fit
  told-view q None e = told-outside (on-table _ q (fit.outside (call_time s i i.arrival) (call_time s i i.departure) i t e) refl)
  told-view q (Some c) e = go (ltb t.count 512) refl
    where
      go : (k : Bool) → ltb t.count 512 ≡ k → Told s b n t i (cond k (In c) Other)
      go true x =
          told_in c (ltb-true t.count 512 x)
          (on-table _ q (fit.room (call_time s i i.arrival) (call_time s i i.departure) i t c e (ltb-true t.count 512 x)) refl)
      go false x = told-other

  told-answer : (a : Answer) → first_answer (call_tests b n i) ≡ a
      → Told s b n t i (uncut_by a (uncut_view t.count (call_seen s t.horizon i)))
  told-answer (Ok Taken) q = told-view q (call_seen s t.horizon i) refl
  told-answer (Ok Outside) q = told-outside (sym (sent-outside s b n t i (Ok Outside) (sym q) refl))
  told-answer (Err r) q = told-other

pub uncut-tells : UncutTells
unfolding uncut_on
uncut-tells s b n t i = told-answer s b n t i (first_answer (call_tests b n i)) refl
