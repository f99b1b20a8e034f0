-- The unsearched load, and one without a call, are sound.
use Rattle.refusal.specs.declared.Accepted.TheVariants.{Taken}
use Rattle.std.specs.Prelude.{Err, Ok}
use mathlib.Core.Path.{◌≡◌, refl, sym, subst}
use mathlib.Core.Bool.{Bool, true, false, false≢true}
use native.Mathlib.Omega.{arith}
use Rattle.laws.specs.Lists.{anyb}
use Rattle.refusal.specs.declared.Refusal.TheVariants.{FieldRange, CallUnknown}
use Rattle.refusal.specs.First.{first_answer}
use Rattle.calls.specs.Shown.{table_calls}
use Rattle.calls.specs.declared.CallKey.{CallKey}
use Rattle.withdrawal.specs.Removal.{has_key, key_known, withdrawn}
use Rattle.withdrawal.proofs.LeftLaws.{withdrawn-leaves}
use Rattle.load.specs.declared.Load.{Load}
use Rattle.load.specs.declared.StepResult.{StepResult}
use Rattle.load.specs.Load.{table_of, with_table}
use Rattle.load.specs.Sound.{Sound}
use Rattle.load.proofs.SoundLaws.{with-table-sound}
use Rattle.again.specs.Again.{unsearched_of, taken_out}

pub unsearched-new : (l : Load) → (unsearched_of l).searched ≡ false
unfolding unsearched_of
unsearched-new l = refl

pub unsearched-sound : (l : Load) → Sound l → Sound (unsearched_of l)
unfolding unsearched_of
unsearched-sound l s = record {
  stops = s.stops;
  table = s.table;
  calls_known = s.calls_known;
  rules = s.rules;
  few = omega arith;
  long = refl;
  blank = refl;
  in_order = tt;
  none_kept = λ e. refl;
  same_horizon = λ e. refl;
  same_limits = λ e. refl;
  stopped_search = λ e. absurd (false≢true e);
  stopped_change = λ e. absurd (false≢true e);
  week = s.week;
}

-- ---- a withdrawal from an unsearched load: 9, 24, or the call goes

-- by whether a call can have the key, and the table has one
pub record Goes (l : Load) (k : CallKey) : Type 0 where
  pub known : key_known k ≡ true
  pub there : anyb (has_key k) (table_calls (table_of l)) ≡ true
  pub is : taken_out l k ≡ record { answer = Ok Taken; load = with_table l (withdrawn (table_of l) k) }

module _ (l : Load) (k : CallKey) where
  -- a call that is there goes
  pub there-goes : key_known k ≡ true → anyb (has_key k) (table_calls (table_of l)) ≡ true
      → taken_out l k ≡ record { answer = Ok Taken; load = with_table l (withdrawn (table_of l) k) }
  unfolding taken_out first_answer
  there-goes e f = rw (e, f) refl

  pub unknown-stays : key_known k ≡ false → taken_out l k ≡ record { answer = Err FieldRange; load = l }
  unfolding taken_out first_answer
  unknown-stays e = rw e refl

  pub none_stays : key_known k ≡ true → anyb (has_key k) (table_calls (table_of l)) ≡ false
      → taken_out l k ≡ record { answer = Err CallUnknown; load = l }
  unfolding taken_out first_answer
  none_stays e f = rw (e, f) refl

  -- of any property of what is returned, by the three cases
  pub out_cases : (P : StepResult → Type 0)
      → (key_known k ≡ false → P (record { answer = Err FieldRange; load = l }))
      → (key_known k ≡ true → anyb (has_key k) (table_calls (table_of l)) ≡ false → P (record { answer = Err CallUnknown; load = l }))
      → (Goes l k → P (record { answer = Ok Taken; load = with_table l (withdrawn (table_of l) k) }))
      → P (taken_out l k)
  out_cases P nine none goes = by (key_known k) refl (anyb (has_key k) (table_calls (table_of l))) refl
    where
      by : (b : Bool) → key_known k ≡ b → (c : Bool) → anyb (has_key k) (table_calls (table_of l)) ≡ c → P (taken_out l k)
      by false e c f = subst P (sym (unknown-stays e)) (nine e)
      by true e false f = subst P (sym (none_stays e f)) (none e f)
      by true e true f = subst P (sym (there-goes e f)) (goes (record { known = e; there = f; is = there-goes e f }))

  goes-sound : Sound l → anyb (has_key k) (table_calls (table_of l)) ≡ true → Sound (with_table l (withdrawn (table_of l) k))
  unfolding withdrawn
  goes-sound s e =
      let w = withdrawn-leaves (table_of l) k s.table e in
      with-table-sound l (withdrawn (table_of l) k) s w.sound (w.known l.stop_count s.calls_known)

  pub taken-out-sound : Sound l → Sound (taken_out l k).load
  taken-out-sound s = out_cases (λ r. Sound r.load) (λ e. s) (λ e f. s) (λ g. goes-sound s g.there)

  pub taken-out-searched : (taken_out l k).load.searched ≡ l.searched
  taken-out-searched = out_cases (λ r. r.load.searched ≡ l.searched) (λ e. refl) (λ e f. refl) (λ g. refl)

  pub taken-out-horizon : (taken_out l k).load.table_horizon ≡ l.table_horizon
  unfolding withdrawn
  taken-out-horizon = out_cases (λ r. r.load.table_horizon ≡ l.table_horizon) (λ e. refl) (λ e f. refl) (λ g. refl)
