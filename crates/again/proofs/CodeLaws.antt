-- Each return of the code is a law at the tests on its way.
use Rattle.refusal.specs.declared.Accepted.TheVariants.{Taken}
use Rattle.std.specs.Prelude.{Err, Ok}
use Prim.Native.Nat.{ℕ, ◌-◌, ◌≤◌}
use mathlib.Core.Path.{◌≡◌, refl, sym, ap, ◌∙◌}
use mathlib.Core.Bool.{true, false, not}
use mathlib.Core.List.{List}
use native.Mathlib.Omega.{arith}
use borrow.Author.Tests.{eq-eqb, ne_eqb}
use Rattle.laws.specs.Lists.{anyb}
use Rattle.laws.proofs.Bools.{cond-by, cond-not}
use Rattle.refusal.specs.declared.Refusal.TheVariants.{FieldRange, CallUnknown}
use Rattle.refusal.specs.First.{first_answer, is_refused, is_taken}
use Rattle.calls.specs.declared.Call.{Call}
use Rattle.calls.specs.declared.CallInput.{CallInput}
use Rattle.calls.specs.Tables.{blank_call}
use Rattle.calls.specs.Shown.{table_calls}
use Rattle.calls.specs.declared.CallKey.{CallKey}
use Rattle.withdrawal.specs.Removal.{last_of, closed_up, has_key, key_known, withdrawn}
use Rattle.withdrawal.proofs.RemovalLaws.{last-counted}
use Rattle.withdrawal.proofs.LeftLaws.{place-tells}
use Rattle.load.specs.declared.Load.{Load}
use Rattle.load.specs.declared.StepResult.{StepResult}
use Rattle.load.specs.Load.{table_of, with_table, with_week}
use Rattle.load.specs.Steps.{call_spec}
use Rattle.again.specs.Again.{unsearched_of, researched, searched_as, again, leaves_table_of, added_to, add_spec_of, taken_out}
use Rattle.again.specs.Again.{withdraw_spec}

-- ---- searched again

module _ (l : Load) (r : StepResult) where
  pub again-refused : is_refused r.answer ≡ true → ◌≡◌ {A = StepResult} (record { answer = r.answer; load = l }) (again l r)
  unfolding again
  again-refused e = sym (cond-by _ _ e)

  module _ (q : StepResult) (is : q ≡ researched l.limit r.load) (e : is_refused r.answer ≡ false) where
    went : searched_as l r.answer q ≡ again l r
    unfolding again
    went = ap (searched_as l r.answer) is ∙ sym (cond-not _ _ e)

    pub again-found : is_taken q.answer ≡ true → ◌≡◌ {A = StepResult} (record { answer = r.answer; load = q.load }) (again l r)
    again-found t = sym (cond-by _ _ t) ∙ went

    pub again-turned : is_taken q.answer ≡ false → ◌≡◌ {A = StepResult} (record { answer = q.answer; load = l }) (again l r)
    again-turned t = sym (cond-not _ _ t) ∙ went

  -- ---- a call

  pub added-taken : (q : StepResult) → q ≡ again l r → is_taken r.answer ≡ true → q ≡ added_to l r
  unfolding added_to
  added-taken q is t = is ∙ sym (cond-not {p = leaves_table_of l r} _ _ (rw t refl))

  pub added-stays : is_taken r.answer ≡ false → r.load.table_horizon ≡ l.table_horizon
      → ◌≡◌ {A = StepResult} (record { answer = r.answer; load = with_week l r.load.week }) (added_to l r)
  unfolding added_to
  added-stays t h = sym (cond-by {p = leaves_table_of l r} _ _ (rw (t, eq-eqb _ _ h) refl))

  pub added-cut : (q : StepResult) → q ≡ again l r → is_taken r.answer ≡ false → (r.load.table_horizon ≡ l.table_horizon → ⊥)
      → q ≡ added_to l r
  unfolding added_to
  added-cut q is t h = is ∙ sym (cond-not {p = leaves_table_of l r} _ _ (rw (t, ne_eqb _ _ h) refl))

module _ (l : Load) (name : List ℕ) (i : CallInput) where
  pub add-searched : (u : Load) (r q : StepResult) → u ≡ unsearched_of l → r ≡ call_spec u name i → q ≡ added_to l r → l.searched ≡ true
      → q ≡ add_spec_of l name i
  unfolding add_spec_of
  add-searched u r q eu er eq e = eq ∙ ap (added_to l) (er ∙ ap (λ (m : Load). call_spec m name i) eu) ∙ sym (cond-by _ _ e)

  pub add-unsearched : (q : StepResult) → q ≡ call_spec l name i → l.searched ≡ false → q ≡ add_spec_of l name i
  unfolding add_spec_of
  add-unsearched q eq e = eq ∙ sym (cond-not _ _ e)

-- ---- a withdrawal

module _ (l : Load) (k : CallKey) where
  pub out-unknown : key_known k ≡ false → ◌≡◌ {A = StepResult} (record { answer = Err FieldRange; load = l }) (taken_out l k)
  unfolding taken_out first_answer
  out-unknown e = rw e refl

  pub out_none : (n : ℕ) → n ≡ last_of (has_key k) (table_calls (table_of l)) → key_known k ≡ true → n ≡ 0
      → ◌≡◌ {A = StepResult} (record { answer = Err CallUnknown; load = l }) (taken_out l k)
  unfolding taken_out first_answer
  out_none n is e z =
      let none : not (anyb (has_key k) (table_calls (table_of l))) ≡ true =
      sym (place-tells (has_key k) (table_calls (table_of l))) ∙ eq-eqb _ 0 (sym is ∙ z) in
      rw (e, none) refl

  pub out-there : (n : ℕ) (cs : List Call) → n ≡ last_of (has_key k) (table_calls (table_of l)) → key_known k ≡ true → (n ≡ 0 → ⊥)
      → cs ≡ closed_up blank_call (n - 1) l.calls
      → ◌≡◌ {A = StepResult} (record {
        answer = Ok Taken;
        load = with_table l (record { calls = cs; count = l.call_count - 1; horizon = l.table_horizon; limits = l.table_limits });
      })
      (taken_out l k)
  unfolding taken_out first_answer withdrawn
  out-there n cs is e z ec =
      let some : not (anyb (has_key k) (table_calls (table_of l))) ≡ false =
      sym (place-tells (has_key k) (table_calls (table_of l))) ∙ ne_eqb _ 0 (λ q. z (is ∙ q)) in
      let array : cs ≡ closed_up blank_call (last_of (has_key k) (table_calls (table_of l)) - 1) l.calls =
      ec ∙ ap (λ (m : ℕ). closed_up blank_call (m - 1) l.calls) is in
      ap (λ (x : List Call). record {
        answer = Ok Taken;
        load = with_table l (record { calls = x; count = l.call_count - 1; horizon = l.table_horizon; limits = l.table_limits });
      }) array
      ∙ rw (e, some) refl

  -- a call is there to be taken off
  pub counted : (n : ℕ) → n ≡ last_of (has_key k) (table_calls (table_of l)) → (n ≡ 0 → ⊥) → 1 ≤ l.call_count
  counted n is z = omega (arith, last-counted (has_key k) l.calls l.call_count, is, z)

  pub withdraw-searched : (u : Load) (r q : StepResult) → u ≡ unsearched_of l → r ≡ taken_out u k → q ≡ again l r → l.searched ≡ true
      → q ≡ withdraw_spec l k
  unfolding withdraw_spec
  withdraw-searched u r q eu er eq e = eq ∙ ap (again l) (er ∙ ap (λ (m : Load). taken_out m k) eu) ∙ sym (cond-by _ _ e)

  pub withdraw-unsearched : (q : StepResult) → q ≡ taken_out l k → l.searched ≡ false → q ≡ withdraw_spec l k
  unfolding withdraw_spec
  withdraw-unsearched q eq e = eq ∙ sym (cond-not _ _ e)
