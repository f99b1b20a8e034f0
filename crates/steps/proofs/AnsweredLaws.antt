-- Each step, and each opening, is answered for the first of its causes.
use Rattle.refusal.specs.declared.Accepted.TheVariants.{Taken, Outside}
use Rattle.std.specs.Prelude.{None, Option, Some, Err, Ok}
use Prim.Native.Nat.{ℕ}
use mathlib.Core.Path.{◌≡◌, refl, sym, ap, subst, ◌∙◌}
use mathlib.Core.Logic.{◌⊎◌, inl, inr}
use mathlib.Core.Bool.{Bool, true, false, not, cond, true≢false}
use mathlib.Core.List.{List, [], ◌∷◌, ◌++◌, map}
use lib.Dec.{eqb}
use borrow.Author.Tests.{eq-eqb}
use Rattle.laws.proofs.Bools.{or-true-left, or_true_right}
use Rattle.refusal.specs.declared.Refusal.TheVariants.{FieldRange}
use Rattle.refusal.specs.First.{First, none as no_test, hit, miss, AllFail, answer_number, is_refused, Answer}
use Rattle.refusal.proofs.FirstLaws.{answer-is-first, first_taken}
use Rattle.settings.specs.Settings.{settings_tests}
use Rattle.calls.specs.declared.CallInput.{CallInput}
use Rattle.calls.specs.Calls.{known, time_tests}
use Rattle.calls.specs.Sound.{one_of}
use Rattle.rules.specs.Rules.{rule_tests}
use Rattle.stops.specs.Answer.{stop_tests}
use Rattle.week.specs.Weeks.{is_dated, service_tests, exception_tests, running}
use Rattle.week.proofs.StepLaws.{runs-undated}
use Rattle.load.specs.declared.Load.{Load}
use Rattle.load.specs.Load.{empty_load, blank_settings}
use Rattle.load.specs.Steps.{Opening, date_tests, open_tests, open_answer, open_spec_of, opened, is_unknown, is_resting, running_tests}
use Rattle.load.specs.FillStep.{stop, call, rule, service, exception}
use Rattle.load.proofs.ClockLaws.{opening-tests}
use Rattle.load.proofs.AnswerLaws.{step-answered as fill-answered}
use Rattle.search.proofs.AnswerLaws.{search-answered}
use Rattle.search.proofs.WithinLaws.{within-answered}
use Rattle.calls.specs.declared.CallKey.{CallKey}
use Rattle.again.specs.Again.{unsearched_of, add_spec_of, withdraw_tests, taken_out}
use Rattle.again.specs.Causes.{search_tests, later_tests, add_causes, withdraw_causes}
use Rattle.again.proofs.AnswerLaws.{add-answered, withdraw-answered}
use Rattle.steps.specs.Steps.{Step, filling, withdraw, search, limited, stepped, causes, numbers}
use Rattle.steps.specs.Answered.{Answered, open_numbers, OpeningAnswered, number}

-- the numbers of the answers of a list of tests
abbrev numbered : List (Bool × Answer) → List ℕ
numbered [] = []
numbered (t ∷ ts) = answer_number t.1 ∷ numbered ts

one-of-same : (n : ℕ) → eqb n n ≡ true
one-of-same n = eq-eqb n n refl

first-numbered : (a : Answer) (ts : List (Bool × Answer)) → First a ts
    → (one_of (answer_number a) (numbered ts) ≡ true) ⊎ (answer_number a ≡ 0)
first-numbered a [] no_test = inr refl
first-numbered a (t ∷ ts) (hit e) = inl (or-true-left _ _ (one-of-same (answer_number a)))
first-numbered a (t ∷ ts) (miss e f) = go (first-numbered a ts f)
  where
    go : (one_of (answer_number a) (numbered ts) ≡ true) ⊎ (answer_number a ≡ 0)
        → (one_of (answer_number a) (answer_number t.1 ∷ numbered ts) ≡ true) ⊎ (answer_number a ≡ 0)
    go (inl q) = inl (or_true_right (eqb (answer_number a) (answer_number t.1)) _ q)
    go (inr q) = inr q

listed_by : (a : Answer) (ts : List (Bool × Answer)) → First a ts → one_of (answer_number a) (0 ∷ numbered ts) ≡ true
listed_by a ts f = go (first-numbered a ts f)
  where
    go : (one_of (answer_number a) (numbered ts) ≡ true) ⊎ (answer_number a ≡ 0) → one_of (answer_number a) (0 ∷ numbered ts) ≡ true
    go (inl q) = or_true_right (eqb (answer_number a) 0) _ q
    go (inr q) = or-true-left _ _ (eq-eqb (answer_number a) 0 q)

numbered_is : (ts : List (Bool × Answer)) → numbered ts ≡ map number ts
numbered_is [] = refl
numbered_is (t ∷ ts) = ap (λ (ns : List ℕ). number t ∷ ns) (numbered_is ts)

-- on a searched load a call and a withdrawal have the tests of the search again too
call-order : (l : Load) (name : List ℕ) (i : CallInput) → map number (add_causes l name i) ≡ numbers l.searched (filling (call name i))
call-order l name i = go l.searched
  where
    go : (b : Bool)
        → map number ((not (known l.stop_count i), Err FieldRange) ∷ running_tests (running l.week name i.day) ++ time_tests i
        ++ later_tests b l name i)
        ≡ numbers b (filling (call name i))
    go true = refl
    go false = refl

withdraw-order : (l : Load) (k : CallKey) → map number (withdraw_causes l k) ≡ numbers l.searched (withdraw k)
withdraw-order l k = go l.searched
  where
    go : (b : Bool) → map number (cond b (withdraw_tests (unsearched_of l) k ++ search_tests l (taken_out (unsearched_of l) k).load)
        (withdraw_tests l k)) ≡ numbers b (withdraw k)
    go true = refl
    go false = refl

step-order : (l : Load) (x : Step) → map number (causes l x) ≡ numbers l.searched x
unfolding stop_tests rule_tests service_tests exception_tests
step-order l (filling (stop id name parent i)) = refl
step-order l (filling (call name i)) = call-order l name i
step-order l (filling (rule i)) = refl
step-order l (filling (service name weekdays start end)) = refl
step-order l (filling (exception name date kind)) = refl
step-order l (withdraw k) = withdraw-order l k
step-order l search = refl
step-order l (limited n) = refl

-- the numbers of an opening's tests
open-numbered : (o : Opening) → numbered (open_tests o) ≡ open_numbers o.dates
unfolding settings_tests
open-numbered o = go o.dates
  where
    go : (d : Option (List ℕ)) → numbered (settings_tests o.settings ++ date_tests d) ≡ open_numbers d
    go None = refl
    go (Some dates) = refl

open_order : (o : Opening) → map number (open_tests o) ≡ open_numbers o.dates
unfolding settings_tests
open_order o = go o.dates
  where
    go : (d : Option (List ℕ)) → map number (settings_tests o.settings ++ date_tests d) ≡ open_numbers d
    go None = refl
    go (Some dates) = refl

pub opening-answered : (o : Opening) → OpeningAnswered o
unfolding open_spec_of open_answer
opening-answered o = record {
  first = answer-is-first _;
  taken = first_taken _ _ (opening-tests o) (answer-is-first _);
  listed = subst (λ (ns : List ℕ). one_of (answer_number (open_spec_of o).answer) (0 ∷ ns) ≡ true) (open-numbered o)
      (listed_by _ _ (answer-is-first _));
  order = open_order o;
  opens = λ w. ap (λ (a : Answer). cond (is_refused a) (empty_load blank_settings) (opened o)) w.0;
}

-- so much of each step is enough
record Meets (l : Load) (x : Step) : Type 0 where
  first : First (stepped l x).answer (causes l x)
  taken : (stepped l x).answer ≡ Ok Taken → AllFail (causes l x)
  unchanged : is_refused (stepped l x).answer ≡ true → (stepped l x).load ≡ l

step-met : (l : Load) (x : Step) → Meets l x
step-met l (filling (stop id name parent i)) = let w =
    fill-answered l (stop id name parent i) in record { first = w.first; taken = w.taken; unchanged = w.unchanged }
step-met l (filling (call name i)) = let w = add-answered l name i in record { first = w.first; taken = w.taken; unchanged = w.unchanged }
step-met l (filling (rule i)) = let w = fill-answered l (rule i) in record { first = w.first; taken = w.taken; unchanged = w.unchanged }
step-met l (filling (service name weekdays start end)) = let w =
    fill-answered l (service name weekdays start end) in record { first = w.first; taken = w.taken; unchanged = w.unchanged }
step-met l (filling (exception name date kind)) = let w =
    fill-answered l (exception name date kind) in record { first = w.first; taken = w.taken; unchanged = w.unchanged }
step-met l (withdraw k) = let w = withdraw-answered l k in record { first = w.first; taken = w.taken; unchanged = w.unchanged }
step-met l search = let w = search-answered l in record { first = w.first; taken = w.taken; unchanged = w.unchanged }
step-met l (limited n) = let w = within-answered l n in record { first = w.first; taken = w.taken; unchanged = w.unchanged }

pub step-answered : (l : Load) (x : Step) → Answered l x
step-answered l x =
    let w = step-met l x in
    record {
      first = w.first;
      taken = w.taken;
      listed = subst (λ (ns : List ℕ). one_of (answer_number (stepped l x).answer) (0 ∷ ns) ≡ true)
          (numbered_is (causes l x) ∙ step-order l x) (listed_by _ _ w.first);
      order = step-order l x;
      unchanged = w.unchanged;
    }

-- the second of the tests fails
without-second : {a b c : Answer} {x y : Bool} {ts : List (Bool × Answer)} → First a ((x, b) ∷ (y, c) ∷ ts) → y ≡ false
    → First a ((x, b) ∷ ts)
without-second (hit e) q = hit e
without-second (miss e (hit f)) q = absurd (true≢false (sym f ∙ q))
without-second (miss e (miss f g)) q = miss e g

-- a call on a load without dates has no 21
pub undated-listed : (l : Load) (name : List ℕ) (i : CallInput) → is_dated l.week ≡ false
    → one_of (answer_number (stepped l (filling (call name i))).answer)
    (0 ∷ 9 ∷ 0 ∷ 0 ∷ 10 ∷ 0 ∷ 11 ∷ cond l.searched (14 ∷ 11 ∷ 0 ∷ []) []) ≡ true
undated-listed l name i d = go l.searched (without-second (add-answered l name i).first
    (ap is_unknown (sym (runs-undated l.week name i.day d))))
  where
    go : (b : Bool)
        → First (add_spec_of l name i).answer ((not (known l.stop_count i), Err FieldRange)
        ∷ (is_resting (running l.week name i.day), Ok Outside) ∷ time_tests i ++ later_tests b l name i)
        → one_of (answer_number (add_spec_of l name i).answer) (0 ∷ 9 ∷ 0 ∷ 0 ∷ 10 ∷ 0 ∷ 11 ∷ cond b (14 ∷ 11 ∷ 0 ∷ []) []) ≡ true
    go true f = listed_by _ _ f
    go false f = listed_by _ _ f
