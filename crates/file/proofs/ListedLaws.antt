-- The number of a whole file is one of those listed: that of its version, of a record or of its end.
use Rattle.refusal.specs.declared.Accepted.TheVariants.{Taken}
use Rattle.std.specs.Prelude.{Err, Ok}
use mathlib.Core.Path.{◌≡◌, refl, sym, ap, ◌∙◌}
use mathlib.Core.Logic.{◌⊎◌, inl, inr}
use mathlib.Core.Bool.{Bool, true, false, not, cond, ◌&&◌, true≢false, false≢true}
use mathlib.Core.List.{List, [], ◌∷◌, ◌++◌}
use Prim.Native.Nat.{ℕ}
use borrow.Author.Tests.{eqb-true}
use lib.Dec.{eqb}
use lib.ListN.{length, drop}
use Rattle.laws.proofs.Bools.{or-true-cases, and-true-left, and-true-right}
use Rattle.refusal.specs.declared.Refusal.TheVariants.{RecordLength, RecordKind}
use Rattle.refusal.specs.First.{first_answer, First, is_refused, answer_number, Answer}
use Rattle.refusal.proofs.FirstLaws.{first-is-answer}
use Rattle.laws.specs.Lists.{one_of}
use Rattle.settings.specs.declared.Settings.{Settings}
use Rattle.calls.specs.declared.CallInput.{CallInput}
use Rattle.fields.specs.Numbers.{byte_at}
use Rattle.fields.specs.Layout.{text_at, option_text_at, name_at, parent_at}
use Rattle.fields.specs.Records.{stop_in, call_in, rule_in}
use Rattle.fields.specs.Second.{settings_by}
use Rattle.week.specs.Weeks.{is_dated, undated_week}
use Rattle.load.specs.declared.Load.{Load}
use Rattle.load.specs.Load.{empty_of, empty_load, blank_settings}
use Rattle.load.specs.Steps.{undated, open_answer, opened, open_spec_of}
use Rattle.load.specs.FillStep.{stop, call, rule}
use Rattle.steps.specs.Steps.{filling, search, stepped, numbers}
use Rattle.steps.proofs.AnsweredLaws.{opening-answered, step-answered, undated-listed}
use Rattle.steps.proofs.WeekLaws.{step-dated}
use Rattle.file.specs.declared.Reader.{Reader}
use Rattle.file.specs.declared.RecordResult.{RecordResult}
use Rattle.file.specs.Record.{fresh_reader, record_tests, step_in, stepped_by, settled, record_spec, causes_by, numbers_by}
use Rattle.file.specs.File.{body_of, end_tests, read_spec_of}
use Rattle.file.specs.Answered.{Reached, start, past, FileAnswered, version, refused, ended, file_numbers, ReadListed}
use Rattle.file.proofs.RecordLaws.{tests-listed, taken-settled, record-answered}
use Rattle.file.proofs.AnsweredLaws.{read-answered}

-- every number of the first list is one of the second
abbrev inside : List ℕ → List ℕ → Bool
inside [] ns = true
inside (m ∷ ms) ns = one_of m ns && inside ms ns

one_inside : (n : ℕ) (ms ns : List ℕ) → inside ms ns ≡ true → one_of n ms ≡ true → one_of n ns ≡ true
one_inside n [] ns i e = absurd (false≢true e)
one_inside n (m ∷ ms) ns i e = go (one_inside n ms ns (and-true-right (one_of m ns) (inside ms ns) i))
    (or-true-cases (eqb n m) (one_of n ms) e)
  where
    go : (one_of n ms ≡ true → one_of n ns ≡ true) → (eqb n m ≡ true) ⊎ (one_of n ms ≡ true) → one_of n ns ≡ true
    go ih (inl q) = ap (λ (k : ℕ). one_of k ns) (eqb-true n m q) ∙ and-true-left (one_of m ns) (inside ms ns) i
    go ih (inr q) = ih q

-- the numbers of the opening and of each step that a record hands in; 21 is a dated load's
step-inside : (o searched : Bool) (b : List ℕ)
    → inside (0 ∷ 18 ∷ 19 ∷ cond o (numbers searched (step_in b)) (1 ∷ 2 ∷ [])) (21 ∷ file_numbers) ≡ true
unfolding step_in
step-inside false searched b = refl
step-inside true searched b = go searched (eqb (byte_at b 0) 2) (eqb (byte_at b 0) 3) (eqb (byte_at b 0) 4)
  where
    go : (d x y z : Bool) → inside (0 ∷ 18 ∷ 19 ∷ numbers d
        (cond x (filling (stop (text_at b 1) (option_text_at b (name_at b)) (option_text_at b (parent_at b)) (stop_in b)))
        (cond y (filling (call [] (call_in b))) (cond z (filling (rule (rule_in b))) search)))) (21 ∷ file_numbers) ≡ true
    go d true y z = refl
    go true false true z = refl
    go false false true z = refl
    go d false false true = refl
    go d false false false = refl

-- ---- a load that is not dated has no 21

others : (n : ℕ) (ms : List ℕ) → one_of n ms ≡ true → one_of 21 ms ≡ false → n ≡ 21 → ⊥
others n ms e f q = true≢false (sym (ap (λ (k : ℕ). one_of k ms) (sym q) ∙ e) ∙ f)

call-not-21 : (l : Load) (i : CallInput) → is_dated l.week ≡ false → answer_number (stepped l (filling (call [] i))).answer ≡ 21 → ⊥
call-not-21 l i d = go l.searched (undated-listed l [] i d)
  where
    go : (b : Bool) → one_of (answer_number (stepped l (filling (call [] i))).answer)
        (0 ∷ 9 ∷ 0 ∷ 0 ∷ 10 ∷ 0 ∷ 11 ∷ cond b (14 ∷ 11 ∷ 0 ∷ []) []) ≡ true
        → answer_number (stepped l (filling (call [] i))).answer ≡ 21 → ⊥
    go true e = others _ (0 ∷ 9 ∷ 0 ∷ 0 ∷ 10 ∷ 0 ∷ 11 ∷ 14 ∷ 11 ∷ 0 ∷ []) e refl
    go false e = others _ (0 ∷ 9 ∷ 0 ∷ 0 ∷ 10 ∷ 0 ∷ 11 ∷ []) e refl

step-not-21 : (l : Load) (b : List ℕ) → is_dated l.week ≡ false → answer_number (stepped l (step_in b)).answer ≡ 21 → ⊥
unfolding step_in
step-not-21 l b d = go (eqb (byte_at b 0) 2) (eqb (byte_at b 0) 3) (eqb (byte_at b 0) 4)
  where
    go : (x y z : Bool) → answer_number (stepped l
        (cond x (filling (stop (text_at b 1) (option_text_at b (name_at b)) (option_text_at b (parent_at b)) (stop_in b)))
        (cond y (filling (call [] (call_in b))) (cond z (filling (rule (rule_in b))) search)))).answer ≡ 21 → ⊥
    go true y z = others _ (0 ∷ 15 ∷ 3 ∷ 5 ∷ 6 ∷ 7 ∷ 8 ∷ 4 ∷ [])
        (step-answered l (filling (stop (text_at b 1) (option_text_at b (name_at b)) (option_text_at b (parent_at b))
        (stop_in b)))).listed refl
    go false true z = call-not-21 l (call_in b) d
    go false false true = others _ (0 ∷ 15 ∷ 9 ∷ 12 ∷ 13 ∷ 11 ∷ []) (step-answered l (filling (rule (rule_in b)))).listed refl
    go false false false = others _ (0 ∷ 15 ∷ 14 ∷ 11 ∷ []) (step-answered l search).listed refl

record-not-21 : (r : Reader) (b : List ℕ) → is_dated r.load.week ≡ false → answer_number (record_spec r b).answer ≡ 21 → ⊥
unfolding record_spec stepped_by settled
record-not-21 r b d = go (is_refused (first_answer (record_tests r.opened r.second b))) refl
  where
    by : (o : Bool) → answer_number (cond o (stepped r.load (step_in b)) (open_spec_of (undated (settings_by r.second b)))).answer ≡ 21 → ⊥
    by true = step-not-21 r.load b d
    by false = others _ (0 ∷ 1 ∷ 2 ∷ []) (opening-answered (undated (settings_by r.second b))).listed refl

    go : (c : Bool) → is_refused (first_answer (record_tests r.opened r.second b)) ≡ c
        → answer_number (cond c (record { answer = first_answer (record_tests r.opened r.second b); reader = r })
        (settled r (cond r.opened (stepped r.load (step_in b)) (open_spec_of (undated (settings_by r.second b)))))).answer ≡ 21 → ⊥
    go true e = others _ (0 ∷ 18 ∷ 19 ∷ []) (tests-listed r.opened r.second b [] e) refl
    go false e = by r.opened

-- the reader of a file is never dated
fresh-undated : (second : Bool) → is_dated (fresh_reader second).load.week ≡ false
unfolding fresh_reader empty_of undated_week
fresh-undated second = refl

opens-undated : (s : Settings) → is_dated (open_spec_of (undated s)).load.week ≡ false
unfolding open_spec_of empty_of undated_week
opens-undated s = go (is_refused (open_answer (undated s)))
  where
    go : (b : Bool) → is_dated (cond b (empty_load blank_settings) (opened (undated s))).week ≡ false
    go true = refl
    go false = refl

stepped-undated : (r : Reader) (b : List ℕ) → is_dated r.load.week ≡ false → is_dated (stepped_by r b).load.week ≡ false
unfolding stepped_by
stepped-undated r b d = go r.opened
  where
    go : (o : Bool) → is_dated (cond o (stepped r.load (step_in b)) (open_spec_of (undated (settings_by r.second b)))).load.week ≡ false
    go true = step-dated r.load (step_in b) ∙ d
    go false = opens-undated (settings_by r.second b)

reached-undated : (second : Bool) (bytes : List ℕ) {r : Reader} {at : ℕ} → Reached second bytes r at → is_dated r.load.week ≡ false
reached-undated second bytes start = fresh-undated second
reached-undated second bytes (past {r} {at} reach whole e) =
    let b = body_of (drop at bytes) in
    ap (λ (q : Reader). is_dated q.load.week) (taken-settled r b e).1 ∙ stepped-undated r b (reached-undated second bytes reach)

record-inside : (r : Reader) (b : List ℕ) (a : Answer) → is_dated r.load.week ≡ false
    → First a (record_tests r.opened r.second b ++ causes_by r b) → one_of (answer_number a) file_numbers ≡ true
record-inside r b a d f =
    let ts = record_tests r.opened r.second b ++ causes_by r b in
    let e : (record_spec r b).answer ≡ a = first-is-answer (record_spec r b).answer ts (record-answered r b).first
    ∙ sym (first-is-answer a ts f) in
    let n = answer_number (record_spec r b).answer in
    ap (λ (c : Answer). one_of (answer_number c) file_numbers) (sym e)
    ∙ go (or-true-cases (eqb n 21) (one_of n file_numbers)
    (one_inside n (0 ∷ 18 ∷ 19 ∷ numbers_by r b) (21 ∷ file_numbers) (step-inside r.opened r.load.searched b)
    (record-answered r b).listed))
  where
    go : (eqb (answer_number (record_spec r b).answer) 21 ≡ true) ⊎ (one_of (answer_number (record_spec r b).answer) file_numbers ≡ true)
        → one_of (answer_number (record_spec r b).answer) file_numbers ≡ true
    go (inl q) = absurd (record-not-21 r b d (eqb-true _ 21 q))
    go (inr q) = q

end-inside : (opened : Bool) (left : ℕ) (a : Answer) → First a (end_tests opened left) → one_of (answer_number a) file_numbers ≡ true
unfolding first_answer
end-inside opened left a f = ap (λ (c : Answer). one_of (answer_number c) file_numbers) (first-is-answer a (end_tests opened left) f)
    ∙ go (not (eqb left 0)) (not opened)
  where
    go : (x y : Bool) → one_of (answer_number (cond x (Err RecordLength) (cond y (Err RecordKind) (Ok Taken)))) file_numbers ≡ true
    go true y = refl
    go false true = refl
    go false false = refl

listed_by : (xs : List ℕ) (t : RecordResult) → FileAnswered xs t → one_of (answer_number t.answer) file_numbers ≡ true
listed_by xs t (version n m) = refl
listed_by xs t (refused {second} {r} {at} {a} v reach whole f g) =
    record-inside r (body_of (drop at (drop 1 xs))) a (reached-undated second (drop 1 xs) reach) f
listed_by xs t (ended {second} {r} {at} {a} v reach whole f) = end-inside r.opened (length (drop at (drop 1 xs))) a f

pub read-listed : ReadListed
read-listed xs = listed_by xs (read_spec_of xs) (read-answered xs)
