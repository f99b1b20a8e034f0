-- Withdrawing straight after taking gives back an unsearched load, if the table's horizon didn't fall.
use Rattle.refusal.specs.declared.Accepted.TheVariants.{Taken}
use Rattle.std.specs.Prelude.{Ok}
use Prim.Native.Nat.{ℕ, ◌<◌}
use mathlib.Core.Path.{◌≡◌, sym, ap, subst, ◌∙◌}
use mathlib.Core.Bool.{true, false}
use mathlib.Core.List.{List}
use Rattle.laws.proofs.Bools.{cond-not}
use Rattle.refusal.specs.First.{is_refused}
use Rattle.calls.specs.declared.Call.{Call}
use Rattle.calls.specs.declared.CallInput.{CallInput}
use Rattle.calls.specs.declared.Table.{Table}
use Rattle.calls.specs.Tables.{put}
use Rattle.calls.specs.Sound.{TableSound}
use Rattle.calls.proofs.SoundLaws.{call-keeps-sound}
use Rattle.calls.specs.declared.CallKey.{CallKey}
use Rattle.withdrawal.specs.Removal.{key_of, has_key, key_known}
use Rattle.withdrawal.proofs.BackLaws.{put-there, put_back, call-entered}
use Rattle.load.specs.declared.Load.{Load}
use Rattle.load.specs.declared.StepResult.{StepResult}
use Rattle.load.specs.Load.{table_of, with_seen, with_table}
use Rattle.load.specs.Steps.{call_fitted, plain_call, closed_load, call_spec}
use Rattle.load.specs.Sound.{Sound}
use Rattle.again.specs.Claims.{Kept}
use Rattle.again.specs.Again.{taken_out, add_spec_of, withdraw_spec}
use Rattle.again.proofs.WeekLaws.{taken-is-plain, closed-kept}
use Rattle.again.proofs.SoundLaws.{there-goes}

-- a sound unsearched load has its table's horizon and mark
table-back : (l : Load) → Sound l → l.searched ≡ false → with_table l (table_of l) ≡ l
table-back l s u = λ j. with_seen l (table_of l)
    (record {
      journeys = l.journeys;
      count = l.journey_count;
      horizon = sym (s.same_horizon u) j;
      limits = sym (s.same_limits u) j;
      searched = l.searched;
      limit = l.limit;
    })

-- a call that is taken and cuts nothing is put into the table, and the services are closed
pub record Put (l : Load) (name : List ℕ) (i : CallInput) : Type 0 where
  pub call : Call
  pub is : (call_spec l name i).load ≡ with_table (closed_load l) (put (table_of l) call)
  pub room : l.call_count < 512
  pub key : has_key (key_of i) call ≡ true
  pub known-key : key_known (key_of i) ≡ true
  pub sound : TableSound (put (table_of l) call)

pub call-put : (l : Load) (name : List ℕ) (i : CallInput) → Sound l → (call_spec l name i).answer ≡ Ok Taken
    → (call_spec l name i).load.table_horizon ≡ l.table_horizon → Put l name i
unfolding plain_call
call-put l name i s q h =
    let plain = taken-is-plain l name i s q in
    let t : (call_fitted l i).answer ≡ (Ok Taken) = sym (ap (λ (r : StepResult). r.answer) plain) ∙ q in
    let in_table : (plain_call l i).load ≡ with_table l (call_fitted l i).table = cond-not _ _ (ap is_refused t) in
    let is : (call_spec l name i).load ≡ closed_load (with_table l (call_fitted l i).table) =
    ap (λ (r : StepResult). r.load) plain ∙ ap closed_load in_table in
    let w = call-entered l.settings l.searched l.stop_count (table_of l) i t (sym (ap (λ (m : Load). m.table_horizon) is) ∙ h) in
    record {
      call = w.call;
      is = is ∙ ap (with_table (closed_load l)) w.table;
      room = w.room;
      key = w.key;
      known-key = w.known-key;
      sound = subst TableSound w.table (call-keeps-sound l.settings l.searched l.stop_count (table_of l) i s.table);
    }

-- the call put in goes again
put-goes : (l : Load) (c : Call) (k : CallKey) → Sound l → l.searched ≡ false → l.call_count < 512 → key_known k ≡ true → has_key k c ≡ true
    → TableSound (put (table_of l) c) → taken_out (with_table l (put (table_of l) c)) k ≡ record { answer = Ok Taken; load = l }
put-goes l c k s u r e f v =
    there-goes (with_table l (put (table_of l) c)) k e (put-there (table_of l) s.table c k r f)
    ∙ ap (λ (t : Table). record { answer = Ok Taken; load = with_table l t }) (put_back (table_of l) s.table c k r f v)
    ∙ ap (λ (m : Load). record { answer = Ok Taken; load = m }) (table-back l s u)

pub taken-back-new : (l : Load) (name : List ℕ) (i : CallInput) → Kept l → l.searched ≡ false → (add_spec_of l name i).answer ≡ Ok Taken
    → (add_spec_of l name i).load.table_horizon ≡ l.table_horizon
    → withdraw_spec (add_spec_of l name i).load (key_of i) ≡ record { answer = Ok Taken; load = closed_load l }
unfolding add_spec_of withdraw_spec
taken-back-new l name i kept u q h =
    let s = kept.sound in
    let as_call : add_spec_of l name i ≡ call_spec l name i = cond-not _ _ u in
    let w = call-put l name i s (sym (ap (λ (r : StepResult). r.answer) as_call) ∙ q)
    (sym (ap (λ (r : StepResult). r.load.table_horizon) as_call) ∙ h) in
    ap (λ (m : Load). withdraw_spec m (key_of i)) (ap (λ (r : StepResult). r.load) as_call ∙ w.is)
    ∙ cond-not _ _ u
    ∙ put-goes (closed_load l) w.call (key_of i) (closed-kept l kept).sound u w.room w.known-key w.key w.sound
