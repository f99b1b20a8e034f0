-- 25 and 26 exactly by their causes; the buffer after writing.
use Rattle.refusal.specs.declared.Accepted.TheVariants.{Taken}
use Rattle.std.specs.Prelude.{Result, Err, Ok, is_some}
use Rattle.std.specs.Result.{is_ok, result_and}
use Rattle.refusal.specs.declared.Refusal.{Refusal}
use Prim.Native.Nat.{ℕ}
use mathlib.Core.Path.{◌≡◌, refl, sym, ap, ◌∙◌}
use mathlib.Core.Bool.{Bool, true, false, cond, ◌||◌, true≢false}
use mathlib.Core.Logic.{⊎_elim}
use mathlib.Core.List.{List, ◌++◌}
use native.Mathlib.Omega.{arith}
use lib.Dec.{ltb}
use lib.ListN.{length, take, drop, length-append, length-drop}
use lib.Seq.{take_at, drop_at}
use borrow.Author.Tests.{ltb-true, ltb-false, lt-ltb}
use Rattle.laws.proofs.Bools.{or-true-cases, or-true-left, or_true_right}
use Rattle.refusal.specs.declared.Refusal.TheVariants.{LoadUnwritable, BufferShort}
use Rattle.refusal.specs.First.{first_answer, is_taken}
use Rattle.refusal.proofs.FirstLaws.{answer-is-first}
use Rattle.load.specs.declared.Load.{Load}
use Rattle.writer.specs.File.{write_spec_of}
use Rattle.writer.specs.Wrote.{unwritable, write_tests, write_answer, wrote_spec, buffer_after}
use Rattle.writer.specs.Claims.{Unwritten, dated, stopped, cut, UnwritableExactly, ShortExactly, WriteAnswered, Left, BufferLeft}
use Rattle.week.specs.Weeks.{is_dated}

-- what is answered, by its two tests
abbrev by_tests_of : Bool → Bool → ℕ → Result ℕ Refusal
by_tests_of x y n = cond x (Err LoadUnwritable) (cond y (Err BufferShort) (Ok n))

abbrev barred : Load → Bool
barred l = unwritable (is_dated l.week) (is_some l.limit) l.table_horizon

abbrev size : Load → ℕ
size l = length (write_spec_of l)

pub wrote-is : (l : Load) (room : ℕ) → wrote_spec l room ≡ by_tests_of (barred l) (ltb room (size l)) (size l)
unfolding wrote_spec write_tests first_answer
wrote-is l room = go (barred l) (ltb room (size l))
  where
    go : (x y : Bool) → result_and (cond x (Err LoadUnwritable) (cond y (Err BufferShort) (Ok Taken))) (Ok (size l))
        ≡ by_tests_of x y (size l)
    go true y = refl
    go false true = refl
    go false false = refl

-- 25's test is its causes
barred-cause : (l : Load) → barred l ≡ true → Unwritten l
unfolding unwritable
barred-cause l e =
    ⊎_elim (λ d. dated d)
    (λ h. ⊎_elim (λ d. stopped d) (λ k. cut (ltb-true l.table_horizon 21600 k))
    (or-true-cases (is_some l.limit) (ltb l.table_horizon 21600) h))
    (or-true-cases (is_dated l.week) (is_some l.limit || ltb l.table_horizon 21600) e)

cause-barred : (l : Load) → Unwritten l → barred l ≡ true
unfolding unwritable
cause-barred l (dated d) = or-true-left (is_dated l.week) _ d
cause-barred l (stopped d) = or_true_right (is_dated l.week) _ (or-true-left (is_some l.limit) _ d)
cause-barred l (cut h) = or_true_right (is_dated l.week) _ (or_true_right (is_some l.limit) _ (lt-ltb l.table_horizon 21600 h))

-- each answer by its tests
is-25 : (x y : Bool) (n : ℕ) → by_tests_of x y n ≡ Err LoadUnwritable → x ≡ true
is-25 true y n e = refl
is-25 false true n e = cc
is-25 false false n e = cc

is-26 : (x y : Bool) (n : ℕ) → by_tests_of x y n ≡ Err BufferShort → (x ≡ false) × (y ≡ true)
is-26 true y n e = (cc, cc)
is-26 false true n e = (refl, refl)
is-26 false false n e = (refl, cc)

is-ok : (x y : Bool) (k n : ℕ) → by_tests_of x y k ≡ Ok n → (x ≡ false) × ((y ≡ false) × (n ≡ k))
is-ok true y k n e = (cc, (cc, cc))
is-ok false true k n e = (refl, (cc, cc))
is-ok false false k n e = (refl, (refl, cc))

pub unwritable-exactly : UnwritableExactly
unwritable-exactly l room = (
  (λ e. barred-cause l (is-25 (barred l) (ltb room (size l)) (size l) (sym (wrote-is l room) ∙ e))),
  (λ u. wrote-is l room ∙ ap (λ (x : Bool). by_tests_of x (ltb room (size l)) (size l)) (cause-barred l u)),
)

not-barred : (l : Load) → (Unwritten l → ⊥) → barred l ≡ false
not-barred l n = go (barred l) refl
  where
    go : (b : Bool) → barred l ≡ b → b ≡ false
    go true e = absurd (n (barred-cause l e))
    go false e = refl

pub short-exactly : ShortExactly
short-exactly l room = (
  (λ e.
      let t = is-26 (barred l) (ltb room (size l)) (size l) (sym (wrote-is l room) ∙ e) in
      record { right_kind = λ u. true≢false (sym (cause-barred l u) ∙ t.0); longer = ltb-true room (size l) t.1 }),
  (λ s. wrote-is l room ∙ (λ t. by_tests_of (not-barred l s.right_kind t) (lt-ltb room (size l) s.longer t) (size l))),
)

answered : (l : Load) (room : ℕ) → result_and (wrote_spec l room) (Ok Taken) ≡ write_answer l room
unfolding write_tests first_answer
answered l room = ap (λ (r : Result ℕ Refusal). result_and r (Ok Taken)) (wrote-is l room) ∙ go (barred l) (ltb room (size l))
  where
    go : (x y : Bool) → result_and (by_tests_of x y (size l)) (Ok Taken) ≡ cond x (Err LoadUnwritable) (cond y (Err BufferShort) (Ok Taken))
    go true y = refl
    go false true = refl
    go false false = refl

pub write-answered : WriteAnswered
unfolding write_tests
write-answered l room = record {
  first = rw (answered l room) (answer-is-first (write_tests l room));
  taken = λ n e. let t = is-ok (barred l) (ltb room (size l)) (size l) n (sym (wrote-is l room) ∙ e) in (t.0, (t.1.0, tt));
}

-- ---- the buffer

module _ (l : Load) (before : List ℕ) where
  abbrev x : Bool
  x = barred l

  abbrev y : Bool
  y = ltb (length before) (size l)

  -- by its two tests
  after_of : Bool → Bool → List ℕ
  after_of true b = before
  after_of false true = before
  after_of false false = write_spec_of l ++ drop (size l) before

  after-is : buffer_after l before ≡ after_of x y
  unfolding buffer_after write_tests first_answer after_of
  after-is = go x y
    where
      go : (a b : Bool) → cond (is_taken (cond a (Err LoadUnwritable) (cond b (Err BufferShort) (Ok Taken))))
          (write_spec_of l ++ drop (size l) before) before ≡ after_of a b
      go true b = refl
      go false true = refl
      go false false = refl

  long_of : (a b : Bool) → y ≡ b → length (after_of a b) ≡ length before
  unfolding after_of
  long_of true b e = refl
  long_of false true e = refl
  long_of false false e =
      length-append (write_spec_of l) _ ∙ rw (length-drop (size l) before) (omega (arith, ltb-false (length before) (size l) e))

  past_of : (a b : Bool) → drop (size l) (after_of a b) ≡ drop (size l) before
  unfolding after_of
  past_of true b = refl
  past_of false true = refl
  past_of false false = drop_at (write_spec_of l) (drop (size l) before) (size l) refl

  refused_of : (a b : Bool) → is_ok (by_tests_of a b (size l)) ≡ false → after_of a b ≡ before
  unfolding after_of
  refused_of true b e = refl
  refused_of false true e = refl
  refused_of false false e = absurd (true≢false e)

  written_of : (a b : Bool) (n : ℕ) → by_tests_of a b (size l) ≡ Ok n → take n (after_of a b) ≡ write_spec_of l
  unfolding after_of
  written_of true b n e = cc
  written_of false true n e = cc
  written_of false false n e = take_at (write_spec_of l) (drop (size l) before) n cc

  pub buffer-left-of : Left l before
  buffer-left-of = record {
    long = ap length after-is ∙ long_of x y refl;
    refused = λ e. after-is ∙ refused_of x y (sym (ap is_ok (wrote-is l (length before))) ∙ e);
    written = λ n e. ap (take n) after-is ∙ written_of x y n (sym (wrote-is l (length before)) ∙ e);
    past = ap (drop (size l)) after-is ∙ past_of x y;
  }

pub buffer-left : BufferLeft
buffer-left = buffer-left-of
