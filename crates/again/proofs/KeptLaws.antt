-- After each step a searched load is the search of its own table, and the table's horizon has not risen; when a withdrawal is answered 24.
use Rattle.refusal.specs.declared.Accepted.TheVariants.{Taken}
use Rattle.std.specs.Prelude.{Err, Ok, Option}
use Prim.Native.Nat.{ℕ, ◌≤◌}
use mathlib.Core.Path.{◌≡◌, refl, sym, ap, subst, ◌∙◌}
use mathlib.Core.Bool.{Bool, true, false, cond, true≢false}
use mathlib.Core.List.{List, [], ◌∷◌}
use native.Mathlib.Omega.{arith}
use Rattle.laws.specs.Lists.{anyb}
use Rattle.laws.proofs.Bools.{not-true}
use Rattle.refusal.specs.declared.Refusal.TheVariants.{Neighbours, NoRoom, CallUnknown}
use Rattle.refusal.specs.First.{First, none, hit, miss, is_refused, is_taken, answer_number, Answer}
use Rattle.calls.specs.declared.CallInput.{CallInput}
use Rattle.calls.specs.Shown.{table_calls}
use Rattle.calls.specs.declared.CallKey.{CallKey}
use Rattle.withdrawal.specs.Removal.{key_of, has_key, key_known, withdrawn}
use Rattle.load.specs.declared.Load.{Load}
use Rattle.load.specs.declared.StepResult.{StepResult}
use Rattle.load.specs.Load.{table_of, with_table, with_week}
use Rattle.load.specs.Steps.{call_fitted, plain_call, closed_load, call_spec}
use Rattle.load.specs.FillStep.{call}
use Rattle.load.specs.Sound.{Sound}
use Rattle.load.proofs.SoundLaws.{fill-keeps-sound}
use Rattle.load.proofs.TableLaws.{call-keeps, never-rises}
use Rattle.search.specs.Search.{search_spec}
use Rattle.search.specs.Within.{within_spec}
use Rattle.search.proofs.RunLaws.{untaken-stays}
use Rattle.search.proofs.SearchSound.{search-sound}
use Rattle.search.proofs.WithinLaws.{untaken-within, within-sound}
use Rattle.again.specs.Again.{unsearched_of, researched, again, leaves_table_of, added_to, add_spec_of, taken_out, withdraw_spec}
use Rattle.again.specs.Causes.{UnknownExactly}
use Rattle.again.specs.Claims.{Kept, SearchKept, WithinKept, AddKept, WithdrawKept, TakenBack, NeverWider}
use Rattle.again.proofs.SoundLaws.{unsearched-new, unsearched-sound, there-goes, none_stays, taken-out-sound, taken-out-searched}
use Rattle.again.proofs.SoundLaws.{taken-out-horizon}
use Rattle.again.proofs.WeekLaws.{week-kept}
use Rattle.again.proofs.OwnLaws.{found-own, within-own}
use Rattle.again.proofs.ResearchLaws.{research-cases, research-first, researched-horizon}
use Rattle.again.proofs.BackLaws.{taken-back-new}
use Rattle.again.proofs.SearchedLaws.{searched-taken-back}

-- ---- the search of its own table

pub search-kept : SearchKept
search-kept l w = go (is_taken (search_spec l).answer) refl
  where
    go : (b : Bool) → is_taken (search_spec l).answer ≡ b → Kept (search_spec l).load
    go true t = record { sound = search-sound l w.sound; own = found-own l w.sound t }
    go false t = subst Kept (sym (untaken-stays l t)) w

pub within-kept : WithinKept
within-kept l n w = go (is_taken (within_spec l n).answer) refl
  where
    go : (b : Bool) → is_taken (within_spec l n).answer ≡ b → Kept (within_spec l n).load
    go true t = record { sound = within-sound l n w.sound; own = within-own l n w.sound t }
    go false t = subst Kept (sym (untaken-within l n t)) w

research-kept : (limit : Option ℕ) (m : Load) → Kept m → Kept (researched limit m).load
research-kept limit m w = research-cases limit m (λ r. Kept r.load) (λ n x. within-kept m n w) (search-kept m w)

-- an unsearched load has no search to be
pub new-kept : (l : Load) → Sound l → l.searched ≡ false → Kept l
new-kept l s n = record { sound = s; own = λ e. absurd (true≢false (sym e ∙ n)) }

-- of any step on the unsearched load
pub again_kept : (l : Load) (r : StepResult) → Kept l → Kept r.load → Kept (again l r).load
unfolding again
again_kept l r w n = go (is_refused r.answer) (is_taken (researched l.limit r.load).answer)
  where
    go : (b c : Bool) → Kept (cond {A = StepResult} b (record { answer = r.answer; load = l })
        (cond {A = StepResult} c (record { answer = r.answer; load = (researched l.limit r.load).load })
        (record { answer = (researched l.limit r.load).answer; load = l }))).load
    go true c = w
    go false true = research-kept l.limit r.load n
    go false false = w

either-searched : (m l : Load) (b : Bool) → m.searched ≡ l.searched → (cond b l m).searched ≡ l.searched
either-searched m l true e = refl
either-searched m l false e = e

plain-searched : (l : Load) (i : CallInput) → (plain_call l i).load.searched ≡ l.searched
unfolding plain_call
plain-searched l i = either-searched (with_table l (call_fitted l i).table) l (is_refused (call_fitted l i).answer) refl

call-searched : (l : Load) (name : List ℕ) (i : CallInput) → (call_spec l name i).load.searched ≡ l.searched
call-searched l name i = call-keeps (λ (m : Load). m.searched) l name i (λ m w. refl) (plain-searched l i)

call_kept : (l : Load) (name : List ℕ) (i : CallInput) → Sound l → l.searched ≡ false → Kept (call_spec l name i).load
call_kept l name i s n = new-kept (call_spec l name i).load (fill-keeps-sound l (call name i) s) (call-searched l name i ∙ n)

out-kept : (l : Load) (k : CallKey) → Sound l → l.searched ≡ false → Kept (taken_out l k).load
out-kept l k s n = new-kept (taken_out l k).load (taken-out-sound l k s) (taken-out-searched l k ∙ n)

added-kept : (l : Load) (r : StepResult) → Kept l → Kept r.load → Kept (added_to l r).load
unfolding added_to
added-kept l r w n = go (leaves_table_of l r)
  where
    go : (b : Bool) → Kept (cond {A = StepResult} b (record { answer = r.answer; load = with_week l r.load.week }) (again l r)).load
    go true = week-kept l r.load.week n.sound.week w
    go false = again_kept l r w n

pub add_kept : AddKept
unfolding add_spec_of
add_kept l name i w = go l.searched refl
  where
    go : (b : Bool) → l.searched ≡ b → Kept (cond b (added_to l (call_spec (unsearched_of l) name i)) (call_spec l name i)).load
    go true e = added-kept l (call_spec (unsearched_of l) name i) w
        (call_kept (unsearched_of l) name i (unsearched-sound l w.sound) (unsearched-new l))
    go false e = call_kept l name i w.sound e

pub withdraw-kept : WithdrawKept
unfolding withdraw_spec
withdraw-kept l k w = go l.searched refl
  where
    go : (b : Bool) → l.searched ≡ b → Kept (cond b (again l (taken_out (unsearched_of l) k)) (taken_out l k)).load
    go true e = again_kept l (taken_out (unsearched_of l) k) w
        (out-kept (unsearched_of l) k (unsearched-sound l w.sound) (unsearched-new l))
    go false e = out-kept l k w.sound e

pub taken_back : TakenBack
taken_back l name i w q h = go l.searched refl
  where
    go : (b : Bool) → l.searched ≡ b → withdraw_spec (add_spec_of l name i).load (key_of i)
        ≡ record { answer = Ok Taken; load = closed_load l }
    go true e = searched-taken-back l name i w e q h
    go false e = taken-back-new l name i w e q h

-- ---- the table's horizon

back-horizon : (l : Load) → (unsearched_of l).table_horizon ≡ l.table_horizon
unfolding unsearched_of
back-horizon l = refl

-- of what a search leaves as it was: that of the load itself, or of what the step made of its unsearched load
pub again-keeps : {A : Type 0} (f : Load → A) → ((limit : Option ℕ) (m : Load) → f (researched limit m).load ≡ f m)
    → (P : A → Type 0) (l : Load) (r : StepResult) → P (f l) → P (f r.load) → P (f (again l r).load)
unfolding again
again-keeps f same P l r p q = go (is_refused r.answer) (is_taken (researched l.limit r.load).answer)
  where
    go : (b c : Bool) → P (f (cond {A = StepResult} b (record { answer = r.answer; load = l })
        (cond {A = StepResult} c (record { answer = r.answer; load = (researched l.limit r.load).load })
        (record { answer = (researched l.limit r.load).answer; load = l }))).load)
    go true c = p
    go false true = subst P (sym (same l.limit r.load)) q
    go false false = p

add-lower : (l : Load) (name : List ℕ) (i : CallInput) → (add_spec_of l name i).load.table_horizon ≤ l.table_horizon
unfolding add_spec_of added_to
add-lower l name i = go l.searched (leaves_table_of l (call_spec (unsearched_of l) name i))
  where
    made : (call_spec (unsearched_of l) name i).load.table_horizon ≤ l.table_horizon
    made = omega (arith, never-rises (unsearched_of l) (call name i), back-horizon l)

    go : (b c : Bool)
        → (cond b (cond {A = StepResult} c (record {
          answer = (call_spec (unsearched_of l) name i).answer;
          load = with_week l (call_spec (unsearched_of l) name i).load.week;
        }) (again l (call_spec (unsearched_of l) name i)))
        (call_spec l name i)).load.table_horizon ≤ l.table_horizon
    go true true = omega arith
    go true false = again-keeps (λ m. m.table_horizon) researched-horizon (λ h. h ≤ l.table_horizon) l
        (call_spec (unsearched_of l) name i) (omega arith) made
    go false c = never-rises l (call name i)

withdraw-same : (l : Load) (k : CallKey) → (withdraw_spec l k).load.table_horizon ≡ l.table_horizon
unfolding withdraw_spec
withdraw-same l k = go l.searched
  where
    go : (b : Bool) → (cond b (again l (taken_out (unsearched_of l) k)) (taken_out l k)).load.table_horizon ≡ l.table_horizon
    go true = again-keeps (λ m. m.table_horizon) researched-horizon (λ h. h ≡ l.table_horizon) l (taken_out (unsearched_of l) k) refl
        (taken-out-horizon (unsearched_of l) k ∙ back-horizon l)
    go false = taken-out-horizon l k

pub never_wider : NeverWider
never_wider l name i k = (add-lower l name i, withdraw-same l k)

-- ---- 24

-- no search is answered 24
first-number : (a : Answer) (x y : Bool) → First a ((x, Err Neighbours) ∷ (y, Err NoRoom) ∷ []) → a ≡ Err CallUnknown → ⊥
first-number _ x y (hit h) e = let n = ap answer_number e in omega (arith, n)
first-number _ x y (miss h (hit k)) e = let n = ap answer_number e in omega (arith, n)
first-number _ x y (miss h (miss k none)) e = let n = ap answer_number e in omega (arith, n)

search-number : (limit : Option ℕ) (m : Load) → m.searched ≡ false → (researched limit m).answer ≡ Err CallUnknown → ⊥
search-number limit m new e = first-number _ _ _ (research-first limit m new) e

-- nor is the search again of a step that is taken
again-number : (l m : Load) → m.searched ≡ false → (again l (record { answer = Ok Taken; load = m })).answer ≡ Err CallUnknown → ⊥
unfolding again
again-number l m n q = go (is_taken (researched l.limit m).answer) q
  where
    go : (c : Bool) → (cond {A = StepResult} c (record { answer = Ok Taken; load = (researched l.limit m).load })
        (record { answer = (researched l.limit m).answer; load = l })).answer ≡ Err CallUnknown → ⊥
    go true e = let z = ap answer_number e in omega (arith, z)
    go false e = search-number l.limit m n e

module _ (l : Load) (k : CallKey) (known : key_known k ≡ true) where
  same-calls : table_calls (table_of (unsearched_of l)) ≡ table_calls (table_of l)
  unfolding unsearched_of
  same-calls = refl

  to : anyb (has_key k) (table_calls (table_of l)) ≡ false → (withdraw_spec l k).answer ≡ Err CallUnknown
  unfolding withdraw_spec again
  to e = go l.searched
    where
      go : (b : Bool) → (cond b (again l (taken_out (unsearched_of l) k)) (taken_out l k)).answer ≡ Err CallUnknown
      go true = ap (λ (r : StepResult). (again l r).answer) (none_stays (unsearched_of l) k known (ap (anyb (has_key k)) same-calls ∙ e))
      go false = ap (λ (r : StepResult). r.answer) (none_stays l k known e)

  there : anyb (has_key k) (table_calls (table_of l)) ≡ true → (withdraw_spec l k).answer ≡ Err CallUnknown → ⊥
  unfolding withdraw_spec withdrawn
  there e q = go l.searched q
    where
      go : (b : Bool) → (cond b (again l (taken_out (unsearched_of l) k)) (taken_out l k)).answer ≡ Err CallUnknown → ⊥
      go true q =
          let is = there-goes (unsearched_of l) k known (ap (anyb (has_key k)) same-calls ∙ e) in
          again-number l (with_table (unsearched_of l) (withdrawn (table_of (unsearched_of l)) k)) (unsearched-new l)
          (sym (ap (λ (r : StepResult). (again l r).answer) is) ∙ q)
      go false q = let z = ap answer_number (sym (ap (λ (r : StepResult). r.answer) (there-goes l k known e)) ∙ q) in omega (arith, z)

pub unknown-exactly : UnknownExactly
unknown-exactly l k known = (λ q. not-true (anyb (has_key k) (table_calls (table_of l))) (λ e. there l k known e q), to l k known)
