-- A record is answered for its first cause alone, a refused one changes nothing, and a taken one opens the load or is handed to it.
use Rattle.refusal.specs.declared.Accepted.TheVariants.{Taken, Outside}
use Rattle.std.specs.Prelude.{Err, Ok}
use mathlib.Core.Path.{◌≡◌, refl, sym, ap, ◌∙◌, subst}
use mathlib.Core.Logic.{◌⊎◌, inl, inr}
use mathlib.Core.Bool.{Bool, true, false, not, cond, true≢false, false≢true}
use mathlib.Core.List.{List, [], ◌∷◌, ◌++◌}
use Prim.Native.Nat.{ℕ}
use lib.Dec.{eqb}
use lib.ListN.{length}
use Rattle.laws.proofs.Bools.{or-true-cases, or-true-left, or_true_right, cond-by, cond-not}
use Rattle.refusal.specs.declared.Refusal.TheVariants.{RecordLength, RecordKind}
use Rattle.refusal.specs.First.{First, AllFail, first_answer, is_refused, answer_number, Answer}
use Rattle.refusal.proofs.FirstLaws.{answer-is-first, first-append, first_past}
use Rattle.laws.specs.Lists.{one_of}
use Rattle.fields.specs.Numbers.{byte_at}
use Rattle.fields.specs.Second.{settings_by}
use Rattle.load.specs.declared.StepResult.{StepResult}
use Rattle.load.specs.declared.Load.{Load}
use Rattle.load.specs.Steps as steps
use Rattle.load.specs.Steps.{undated, opened, open_spec_of, unless_refused}
use Rattle.steps.specs.Steps.{Step, stepped}
use Rattle.steps.proofs.AnsweredLaws.{step-answered, opening-answered}
use Rattle.file.specs.declared.Reader.{Reader}
use Rattle.file.specs.declared.RecordResult.{RecordResult}
use Rattle.file.specs.Record.{open_reader, kind_right, filled, record_tests, step_in, stepped_by, settled, record_spec, causes_by}
use Rattle.file.specs.Record.{numbers_by, RecordAnswered}

refused-not-taken : (a : Answer) → is_refused a ≡ true → a ≡ Ok Taken → ⊥
refused-not-taken (Ok Taken) e q = false≢true e
refused-not-taken (Ok Outside) e q = false≢true e
refused-not-taken (Err r) e q = false≢true (sym (ap is_refused q) ∙ e)

-- every test sends the record back, so one that is not sent back fails each
pub all-fail : (opened second : Bool) (b : List ℕ) → is_refused (first_answer (record_tests opened second b)) ≡ false
    → AllFail (record_tests opened second b)
unfolding record_tests first_answer
all-fail opened second b e = go (eqb (length b) 0) (not (kind_right opened (byte_at b 0))) (not (filled second b)) e
  where
    go : (x y z : Bool) → is_refused (cond x (Err RecordLength) (cond y (Err RecordKind) (cond z (Err RecordLength) (Ok Taken)))) ≡ false
        → (x ≡ false) × ((y ≡ false) × ((z ≡ false) × Unit {0}))
    go true y z e = absurd (true≢false e)
    go false true z e = absurd (true≢false e)
    go false false true e = absurd (true≢false e)
    go false false false e = (refl, (refl, (refl, tt)))

-- what the load, or the opening, answers
record Stepping (r : Reader) (b : List ℕ) (a : Answer) : Type 0 where
  first : First a (causes_by r b)
  taken : a ≡ Ok Taken → AllFail (causes_by r b)
  listed : one_of (answer_number a) (0 ∷ numbers_by r b) ≡ true

stepping : (r : Reader) (b : List ℕ) → Stepping r b (stepped_by r b).answer
unfolding stepped_by
stepping r b = go r.opened
  where
    go : (o : Bool) → Stepping (record { opened = o; second = r.second; load = r.load }) b
        (cond o (stepped r.load (step_in b)) (open_spec_of (undated (settings_by r.second b)))).answer
    go true = let w = step-answered r.load (step_in b) in record { first = w.first; taken = w.taken; listed = w.listed }
    go false = let w = opening-answered (undated (settings_by r.second b)) in record { first = w.first; taken = w.taken; listed = w.listed }

-- a record that is sent back has 18 or 19
pub tests-listed : (opened second : Bool) (b : List ℕ) (ns : List ℕ) → is_refused (first_answer (record_tests opened second b)) ≡ true
    → one_of (answer_number (first_answer (record_tests opened second b))) (0 ∷ 18 ∷ 19 ∷ ns) ≡ true
unfolding record_tests first_answer
tests-listed opened second b ns e = go (eqb (length b) 0) (not (kind_right opened (byte_at b 0))) (not (filled second b)) e
  where
    go : (x y z : Bool) → is_refused (cond x (Err RecordLength) (cond y (Err RecordKind) (cond z (Err RecordLength) (Ok Taken)))) ≡ true
        → one_of (answer_number (cond x (Err RecordLength) (cond y (Err RecordKind) (cond z (Err RecordLength) (Ok Taken)))))
        (0 ∷ 18 ∷ 19 ∷ ns) ≡ true
    go true y z e = refl
    go false true z e = refl
    go false false true e = refl
    go false false false e = absurd (false≢true e)

listed-past : (n : ℕ) (ns : List ℕ) → one_of n (0 ∷ ns) ≡ true → one_of n (0 ∷ 18 ∷ 19 ∷ ns) ≡ true
listed-past n ns e = go (or-true-cases (eqb n 0) (one_of n ns) e)
  where
    go : (eqb n 0 ≡ true) ⊎ (one_of n ns ≡ true) → one_of n (0 ∷ 18 ∷ 19 ∷ ns) ≡ true
    go (inl q) = or-true-left _ _ q
    go (inr q) = or_true_right (eqb n 0) _ (or_true_right (eqb n 18) _ (or_true_right (eqb n 19) _ q))

both-fail : (ts us : List (Bool × Answer)) → AllFail ts → AllFail us → AllFail (ts ++ us)
both-fail [] us n m = m
both-fail (t ∷ ts) us (e, n) m = (e, both-fail ts us n m)

-- past the tests, what is answered is the step's
tested : (r : Reader) (b : List ℕ) (c : Bool) → is_refused (first_answer (record_tests r.opened r.second b)) ≡ c
    → record_spec r b ≡ cond c (record { answer = first_answer (record_tests r.opened r.second b); reader = r })
    (settled r (stepped_by r b))
unfolding record_spec
tested r b c e = rw e refl

settled_is : (r : Reader) (s : StepResult) → settled r s
    ≡ record { answer = s.answer; reader = cond (is_refused s.answer) r (open_reader s.load) }
unfolding settled
settled_is r s = refl

settled-answer : (r : Reader) (s : StepResult) → (settled r s).answer ≡ s.answer
unfolding settled
settled-answer r s = refl

pub settled-taken : (r : Reader) (s : StepResult) → is_refused s.answer ≡ false → (settled r s).reader ≡ open_reader s.load
unfolding settled
settled-taken r s e = rw e refl

record Answers (r : Reader) (b : List ℕ) (t : RecordResult) : Type 0 where
  first : First t.answer (record_tests r.opened r.second b ++ causes_by r b)
  taken : t.answer ≡ Ok Taken → AllFail (record_tests r.opened r.second b ++ causes_by r b)
  listed : one_of (answer_number t.answer) (0 ∷ 18 ∷ 19 ∷ numbers_by r b) ≡ true
  unchanged : is_refused t.answer ≡ true → t.reader ≡ r

answers : (r : Reader) (b : List ℕ) → Answers r b (record_spec r b)
answers r b = go (is_refused (first_answer (record_tests r.opened r.second b))) refl
  where
    past : (s : StepResult) → AllFail (record_tests r.opened r.second b) → Stepping r b s.answer → Answers r b (settled r s)
    past s n w = subst (λ (t : RecordResult). Answers r b t) (sym (settled_is r s)) (record {
      first = first_past s.answer (record_tests r.opened r.second b) (causes_by r b) n w.first;
      taken = λ k. both-fail (record_tests r.opened r.second b) (causes_by r b) n (w.taken k);
      listed = listed-past (answer_number s.answer) (numbers_by r b) w.listed;
      unchanged = λ k. cond-by _ _ k;
    })

    go : (c : Bool) → is_refused (first_answer (record_tests r.opened r.second b)) ≡ c → Answers r b (record_spec r b)
    go true e = subst (Answers r b) (sym (tested r b true e)) (record {
      first = first-append _ (record_tests r.opened r.second b) (causes_by r b) (answer-is-first (record_tests r.opened r.second b))
          (refused-not-taken _ e);
      taken = λ k. absurd (refused-not-taken _ e k);
      listed = tests-listed r.opened r.second b (numbers_by r b) e;
      unchanged = λ k. refl;
    })
    go false e = subst (Answers r b) (sym (tested r b false e)) (past (stepped_by r b) (all-fail r.opened r.second b e) (stepping r b))

pub record-answered : RecordAnswered
record-answered r b = let w = answers r b in record { first = w.first; taken = w.taken; listed = w.listed; unchanged = w.unchanged }

-- ---- a record that is taken

-- passed the tests, and was not sent back by the load
pub taken-settled : (r : Reader) (b : List ℕ) → is_refused (record_spec r b).answer ≡ false
    → (is_refused (stepped_by r b).answer ≡ false) × ((record_spec r b).reader ≡ open_reader (stepped_by r b).load)
taken-settled r b k = go (is_refused (first_answer (record_tests r.opened r.second b))) refl
  where
    go : (c : Bool) → is_refused (first_answer (record_tests r.opened r.second b)) ≡ c
        → (is_refused (stepped_by r b).answer ≡ false) × ((record_spec r b).reader ≡ open_reader (stepped_by r b).load)
    go true e = absurd (true≢false (sym e ∙ sym (ap (λ (t : RecordResult). is_refused t.answer) (tested r b true e)) ∙ k))
    go false e =
        let f : is_refused (stepped_by r b).answer ≡ false =
        sym (ap is_refused (settled-answer r (stepped_by r b))) ∙ sym (ap (λ (t : RecordResult). is_refused t.answer) (tested r b false e))
        ∙ k in
        (f, ap (λ (t : RecordResult). t.reader) (tested r b false e) ∙ settled-taken r (stepped_by r b) f)

-- ---- one test after another

module _ (r : Reader) (b : List ℕ) {a : Answer} {t : Bool} (a-is : a ≡ first_answer (record_tests r.opened r.second b))
    (t-is : t ≡ is_refused a) where
  refused-by : {c : Bool} → t ≡ c → is_refused (first_answer (record_tests r.opened r.second b)) ≡ c
  refused-by e = ap is_refused (sym a-is) ∙ sym t-is ∙ e

  pub turned-away : t ≡ true → record { answer = a; reader = r } ≡ record_spec r b
  turned-away e = ap (λ (x : Answer). record { answer = x; reader = r }) a-is ∙ sym (tested r b true (refused-by e))

  -- what a step in place answers, and the load that it leaves
  module _ {s : Answer} {m : Load} {u : Bool} (s-is : steps.stepped s m ≡ unless_refused r.load (stepped_by r b)) (u-is : u ≡ is_refused s)
      (e : t ≡ false) where
    answer-is : s ≡ (stepped_by r b).answer
    answer-is = ap (λ (x : StepResult). x.answer) s-is

    refused-as : {c : Bool} → u ≡ c → is_refused (stepped_by r b).answer ≡ c
    refused-as f = ap is_refused (sym answer-is) ∙ sym u-is ∙ f

    pub sent_back : u ≡ true → record { answer = s; reader = record { opened = r.opened; second = r.second; load = m } } ≡ record_spec r b
    unfolding settled
    sent_back f =
        let same : m ≡ r.load = ap (λ (x : StepResult). x.load) s-is ∙ cond-by _ _ (refused-as f) in
        let stays : r ≡ cond (is_refused (stepped_by r b).answer) r (open_reader (stepped_by r b).load) = sym (cond-by _ _ (refused-as f)) in
        (λ k. record { answer = answer-is k; reader = record { opened = r.opened; second = r.second; load = same k } })
        ∙ (λ k. record { answer = (stepped_by r b).answer; reader = stays k }) ∙ sym (tested r b false (refused-by e))

    pub taken : u ≡ false → record { answer = s; reader = open_reader m } ≡ record_spec r b
    unfolding settled
    taken f =
        let same : m ≡ (stepped_by r b).load = ap (λ (x : StepResult). x.load) s-is ∙ cond-not _ _ (refused-as f) in
        let goes : open_reader (stepped_by r b).load ≡ cond (is_refused (stepped_by r b).answer) r (open_reader (stepped_by r b).load) =
        sym (cond-not _ _ (refused-as f)) in
        (λ k. record { answer = answer-is k; reader = open_reader (same k) })
        ∙ (λ k. record { answer = (stepped_by r b).answer; reader = goes k }) ∙ sym (tested r b false (refused-by e))

-- ---- a step that leaves a load that it sends back as it was

pub stays : (l : Load) (x : Step) → stepped l x ≡ unless_refused l (stepped l x)
stays l x = go (is_refused (stepped l x).answer) refl
  where
    go : (c : Bool) → is_refused (stepped l x).answer ≡ c → stepped l x ≡ unless_refused l (stepped l x)
    go true e =
        let same : (stepped l x).load ≡ cond (is_refused (stepped l x).answer) l (stepped l x).load =
        (step-answered l x).unchanged e ∙ sym (cond-by _ _ e) in
        λ k. record { answer = (stepped l x).answer; load = same k }
    go false e =
        let same : (stepped l x).load ≡ cond (is_refused (stepped l x).answer) l (stepped l x).load = sym (cond-not _ _ e) in
        λ k. record { answer = (stepped l x).answer; load = same k }
