-- The call step on the table, by what the call is answered before it.
use Rattle.refusal.proofs.FirstLaws.{first-is-answer}
use Rattle.refusal.specs.declared.Refusal.TheVariants.{AlreadySearched}
use Rattle.refusal.specs.declared.Accepted.TheVariants.{Taken, Outside}
use Rattle.std.specs.Prelude.{Err, Ok}
use Prim.Native.Nat.{ℕ}
use mathlib.Core.Path.{◌≡◌, sym, ap, ◌∙◌}
use mathlib.Core.Bool.{cond, Bool, false, true}
use Rattle.calls.specs.declared.CallInput.{CallInput}
use Rattle.calls.specs.Tried.{Tried}
use Rattle.refusal.specs.declared.Refusal.{Refusal}
use Rattle.calls.specs.declared.Table.{Table}
use Rattle.settings.specs.declared.Settings.{Settings}
use Rattle.refusal.specs.First.{first_answer, is_refused, Answer, hit}
use Rattle.calls.specs.Calls.{call_tests, goes_on_of, ended, call_fit, call_on}

-- after the search no call is taken
pub searched : (b : Bool) (stops : ℕ) (i : CallInput) → b ≡ true → Err AlreadySearched ≡ first_answer (call_tests b stops i)
unfolding call_tests
searched b stops i h = first-is-answer _ _ (hit h)

-- the step on the table, by the answer of the tests
module _ (s : Settings) (b : Bool) (n : ℕ) (t : Table) (i : CallInput) where
  pub sent-outside : (a : Answer) → a ≡ first_answer (call_tests b n i) → a ≡ Ok Outside
      → ◌≡◌ {A = Tried} (record { answer = a; table = t }) (call_on s b n t i)
  unfolding call_on
  sent-outside a e q = (λ k. record { answer = q k; table = t }) ∙ ap (goes_on_of s t i) (sym q ∙ e)

  pub sent_back : (a : Answer) (r : Refusal) → a ≡ first_answer (call_tests b n i) → a ≡ Err r
      → ◌≡◌ {A = Tried} (record { answer = a; table = t }) (call_on s b n t i)
  unfolding call_on
  sent_back a r e q = (λ k. record { answer = q k; table = t }) ∙ ap (goes_on_of s t i) (sym q ∙ e)

  pub changed : (f : Tried) → Ok Taken ≡ first_answer (call_tests b n i) → f ≡ call_fit s t i → is_refused f.answer ≡ false
      → f ≡ call_on s b n t i
  unfolding call_on
  changed f e q r =
      let x : f ≡ ended t f = λ k. record { answer = f.answer; table = cond (sym r k) t f.table } in
      x ∙ ap (ended t) q ∙ ap (goes_on_of s t i) e
