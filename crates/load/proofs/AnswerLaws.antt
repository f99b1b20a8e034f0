-- Each step's answer is that of the first of its causes that holds, a taken step has none, and a refused load comes back unchanged.
use Rattle.refusal.specs.declared.Accepted.TheVariants.{Taken, Outside}
use Rattle.std.specs.Prelude.{Err, Ok}
use mathlib.Core.Path.{◌≡◌, refl, sym, ap, subst}
use mathlib.Core.Bool.{Bool, true, false, false≢true, true≢false}
use mathlib.Core.List.{List, ◌∷◌, ◌++◌}
use Prim.Native.Nat.{ℕ}
use Rattle.laws.proofs.Bools.{cond-by, cond-not}
use Rattle.refusal.specs.First.{First, hit, miss, is_refused, is_taken, Answer}
use Rattle.refusal.proofs.FirstLaws.{answer-is-first, first-append, first_taken}
use Rattle.stops.specs.Answer.{stop_tests}
use Rattle.calls.specs.declared.CallInput.{CallInput}
use Rattle.calls.specs.Calls.{field_tests, time_tests, call_tests}
use Rattle.calls.proofs.ReachedLaws.{call-answered}
use Rattle.rules.specs.Rules.{rule_tests}
use Rattle.week.specs.declared.Running.{Running}
use Rattle.week.specs.declared.Running.TheVariants.{Runs}
use Rattle.week.specs.Weeks.{is_dated, service_tests, service_on, exception_tests, exception_on, running}
use Rattle.week.proofs.StepLaws.{runs-undated}
use Rattle.week.proofs.SoundLaws.{service-unchanged, exception-unchanged}
use Rattle.load.specs.declared.Load.{Load}
use Rattle.load.specs.declared.StepResult.{StepResult}
use Rattle.load.specs.Load.{table_of, with_week}
use Rattle.load.specs.Steps.{stop_answer, stop_spec, plain_call, is_unknown, is_resting, running_tests, gate_answer, call_spec, rule_answer}
use Rattle.load.specs.Steps.{rule_spec, service_spec, exception_spec}
use Rattle.load.specs.FillStep.{stop, call, rule, service, exception, window_tests, causes, StepAnswered}
use Rattle.load.proofs.StepLaws.{Called, without, goes_on, stays_out, sent_back, called, gate-passed, plain-unchanged}

refused-not-taken : (a : Answer) → is_refused a ≡ true → is_taken a ≡ false
refused-not-taken (Ok Taken) e = absurd (false≢true e)
refused-not-taken (Ok Outside) e = refl
refused-not-taken (Err r) e = refl

-- two tests more that fail
pub insert-two : {a b c d e : Answer} {p q x y : Bool} {ts : List (Bool × Answer)} → x ≡ false → y ≡ false → First a ((p, b) ∷ (q, c) ∷ ts)
    → First a ((p, b) ∷ (q, c) ∷ (x, d) ∷ (y, e) ∷ ts)
insert-two u v (hit h) = hit h
insert-two u v (miss h (hit k)) = miss h (hit k)
insert-two u v (miss h (miss k f)) = miss h (miss k (miss u (miss v f)))

module _ (l : Load) (name : List ℕ) (i : CallInput) where
  -- the call's own answer, where its service lets it pass
  plain-first : (r : Running) → r ≡ Runs
      → First (plain_call l i).answer (field_tests l.searched l.stop_count i ++ running_tests r ++ time_tests i ++ window_tests l i)
  unfolding plain_call call_tests
  plain-first r e = insert-two (ap is_unknown e) (ap is_resting e) (call-answered l.settings l.searched l.stop_count (table_of l) i)

  gate-first : (a : Answer) → gate_answer l.searched l.stop_count (running l.week name i.day) i ≡ a → (a ≡ Ok Taken → ⊥)
      → First a (causes l (call name i))
  unfolding gate_answer
  gate-first a e n =
      first-append a (field_tests l.searched l.stop_count i ++ running_tests (running l.week name i.day)) (time_tests i ++ window_tests l i)
      (subst (λ (b : Answer). First b (field_tests l.searched l.stop_count i ++ running_tests (running l.week name i.day))) e
      (answer-is-first _)) n

  undated-runs : is_dated l.week ≡ false → running l.week name i.day ≡ Runs
  undated-runs d = sym (runs-undated l.week name i.day d)

  call-first : First (call_spec l name i).answer (causes l (call name i))
  call-first = go _ (called l name i)
    where
      go : (r : StepResult) → Called l name i r → First r.answer (causes l (call name i))
      go _ (without d) = plain-first _ (undated-runs d)
      go _ (goes_on d e) = plain-first _ (gate-passed l.searched l.stop_count i _ e).1.1
      go _ (stays_out d e) = gate-first (Ok Outside) e (λ q. true≢false (sym (ap is_taken q)))
      go _ (sent_back d r e) = gate-first (Err r) e (λ q. true≢false (sym (ap is_taken q)))

  call-unchanged : is_refused (call_spec l name i).answer ≡ true → (call_spec l name i).load ≡ l
  call-unchanged = go _ (called l name i)
    where
      go : (r : StepResult) → Called l name i r → is_refused r.answer ≡ true → r.load ≡ l
      go _ (without d) e = plain-unchanged l i e
      go _ (goes_on d q) e = cond-by _ _ e
      go _ (stays_out d q) e = absurd (false≢true e)
      go _ (sent_back d r q) e = refl

pub step-answered : StepAnswered
unfolding stop_spec rule_spec service_spec exception_spec service_on exception_on stop_tests rule_tests service_tests exception_tests
step-answered l (stop id name parent i) = record {
  first = answer-is-first _;
  taken = first_taken _ _ refl (answer-is-first _);
  unchanged = λ e. cond-not _ _ (refused-not-taken (stop_answer l id name parent i) e);
}
step-answered l (call name i) = record {
  first = call-first l name i;
  taken = first_taken _ _ refl (call-first l name i);
  unchanged = call-unchanged l name i;
}
step-answered l (rule i) = record {
  first = answer-is-first _;
  taken = first_taken _ _ refl (answer-is-first _);
  unchanged = λ e. cond-not _ _ (refused-not-taken (rule_answer l i) e);
}
step-answered l (service name weekdays start end) = record {
  first = answer-is-first _;
  taken = first_taken _ _ refl (answer-is-first _);
  unchanged = λ e. ap (with_week l) (service-unchanged l.week l.searched name weekdays start end e);
}
step-answered l (exception name date kind) = record {
  first = answer-is-first _;
  taken = first_taken _ _ refl (answer-is-first _);
  unchanged = λ e. ap (with_week l) (exception-unchanged l.week l.searched name date kind e);
}
