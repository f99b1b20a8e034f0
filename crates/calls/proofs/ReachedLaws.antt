-- A call is answered, and the table left, as the table that its cuts reach says.
use Rattle.refusal.specs.declared.Accepted.TheVariants.{Taken, Outside}
use Rattle.std.specs.Prelude.{Option, Err, Ok}
use Prim.Native.Nat.{ℕ, zero, suc, ◌<◌, ◌≤◌}
use mathlib.Core.Path.{◌≡◌, refl, sym, subst, ◌∙◌}
use mathlib.Core.List.{List, ◌++◌}
use mathlib.Core.Bool.{Bool, true, false, cond, ◌&&◌, false≢true}
use native.Mathlib.Omega.{arith}
use lib.Dec.{ltb, leb}
use borrow.Author.Tests.{leb-true, leb-false, lt-ltb, le-ltb}
use Rattle.laws.proofs.Bools.{and-true-left, and-true-right, and-by, cond-by, cond-not}
use Rattle.settings.specs.declared.Settings.{Settings}
use Rattle.refusal.specs.declared.Refusal.TheVariants.{NoRoom}
use Rattle.refusal.specs.First.{First, first_answer, Answer}
use Rattle.refusal.proofs.FirstLaws.{answer-is-first, first-append, first_past}
use Rattle.calls.specs.declared.CallInput.{CallInput}
use Rattle.calls.specs.declared.Table.{Table}
use Rattle.calls.specs.Tried.{Tried}
use Rattle.calls.specs.Windows.{outside, seen}
use Rattle.calls.specs.Tables.{cut, less, entered, fitted_in, fitted}
use Rattle.calls.specs.Calls.{call_tests, call_time, call_fit, call_on, goes_on_of}
use Rattle.calls.specs.Reached.{is_full, meets_full, reached_in, reached, ReachedFull, reached_tests, reached_fit, FittedReached}
use Rattle.calls.specs.Reached.{CallAnswered}
use Rattle.calls.proofs.FitLaws.{falls, spent}
use Rattle.calls.proofs.SoundLaws.{call-tests-fail}

module _ (a d : Option ℕ) (i : CallInput) where
  abbrev no_room_of : Table → Tried
  no_room_of t = record { answer = Err NoRoom; table = t }

  -- at a table that is not cut
  here : (t : Table) (more : Tried) → (meets_full t a d ≡ true → more ≡ no_room_of t) → (meets_full t a d ≡ true → less t.horizon < 3600)
      → entered t (seen t.horizon a d i) more ≡ reached_fit t a d i
  unfolding seen first_answer
  here t more f g = go (outside t.horizon a d) (is_full t) refl refl
    where
      go : (o k : Bool) → outside t.horizon a d ≡ o → is_full t ≡ k → entered t (seen t.horizon a d i) more ≡ reached_fit t a d i
      go true k p q = rw p refl
      go false true p q =
          let m : meets_full t a d ≡ true = rw (p, q) refl in
          rw (p, le-ltb t.count 512 (leb-true _ _ q), q, lt-ltb (less t.horizon) 3600 (g m)) (f m)
      go false false p q = rw (p, lt-ltb t.count 512 (leb-false _ _ q), q) refl

  -- a full table passes the call on
  past : (t : Table) (more : Tried) → meets_full t a d ≡ true → entered t (seen t.horizon a d i) more ≡ more
  unfolding seen
  past t more e = go (outside t.horizon a d) (is_full t) refl refl e
    where
      go : (o k : Bool) → outside t.horizon a d ≡ o → is_full t ≡ k → meets_full t a d ≡ true → entered t (seen t.horizon a d i) more ≡ more
      go true k p q e = absurd (false≢true (rw p at e))
      go false true p q e = rw (p, le-ltb t.count 512 (leb-true _ _ q)) refl
      go false false p q e = absurd (false≢true (rw (p, q) at e))

  -- with as many cuts as the horizon has seconds
  fitted-in : (n : ℕ) (t : Table) → t.horizon ≤ n → fitted_in n t a d i ≡ reached_fit (reached_in n t a d) a d i
  unfolding cut
  fitted-in zero t b = here t (no_room_of t) (λ e. refl) (λ e. spent t.horizon b)
  fitted-in (suc n) t b = go (meets_full t a d && leb 3600 (less t.horizon)) refl (fitted-in n (cut (less t.horizon) t))
    where
      more : Tried
      more = cond (ltb (less t.horizon) 3600) (no_room_of t) (fitted_in n (cut (less t.horizon) t) a d i)

      go : (c : Bool) → (meets_full t a d && leb 3600 (less t.horizon)) ≡ c
          → (less t.horizon ≤ n
          → fitted_in n (cut (less t.horizon) t) a d i ≡ reached_fit (reached_in n (cut (less t.horizon) t) a d) a d i)
          → entered t (seen t.horizon a d i) more ≡ reached_fit (cond c (reached_in n (cut (less t.horizon) t) a d) t) a d i
      go true e ih =
          past t more (and-true-left _ _ e)
          ∙ cond-not _ _ (le-ltb (less t.horizon) 3600 (leb-true _ _ (and-true-right (meets_full t a d) _ e)))
          ∙ ih (falls t.horizon n b (leb-true _ _ (and-true-right (meets_full t a d) _ e)))
      go false e ih = here t more (λ f. cond-by _ _ (lt-ltb (less t.horizon) 3600 (low f))) low
        where
          low : meets_full t a d ≡ true → less t.horizon < 3600
          low f = leb-false _ _ (sym (and-by (leb 3600 (less t.horizon)) f) ∙ e)

module _ (a d : Option ℕ) where
  -- as many cuts as the horizon has seconds are enough
  stops-in : (n : ℕ) (t : Table) → t.horizon ≤ n → meets_full (reached_in n t a d) a d ≡ true → less (reached_in n t a d).horizon < 3600
  unfolding cut
  stops-in zero t p = λ f. spent t.horizon p
  stops-in (suc n) t p = go (meets_full t a d && leb 3600 (less t.horizon)) refl (stops-in n (cut (less t.horizon) t))
    where
      go : (c : Bool) → (meets_full t a d && leb 3600 (less t.horizon)) ≡ c
          → (less t.horizon ≤ n → meets_full (reached_in n (cut (less t.horizon) t) a d) a d ≡ true
          → less (reached_in n (cut (less t.horizon) t) a d).horizon < 3600)
          → (let r = cond c (reached_in n (cut (less t.horizon) t) a d) t in meets_full r a d ≡ true → less r.horizon < 3600)
      go true e ih = ih (falls t.horizon n p (leb-true _ _ (and-true-right (meets_full t a d) _ e)))
      go false e ih = λ f. leb-false _ _ (sym (and-by (leb 3600 (less t.horizon)) f) ∙ e)

pub reached-full : ReachedFull
unfolding reached
reached-full t a d = stops-in a d t.horizon t (omega arith)

pub fitted-reached : FittedReached
unfolding fitted reached
fitted-reached t a d i = fitted-in a d i t.horizon t (omega arith)

module _ (s : Settings) (b : Bool) (n : ℕ) (t : Table) (i : CallInput) where
  abbrev tests : List (Bool × Answer)
  tests = call_tests b n i

  abbrev then : List (Bool × Answer)
  then =
      reached_tests (reached t (call_time s i i.arrival) (call_time s i i.departure)) (call_time s i i.arrival) (call_time s i i.departure)

  tested : (x : Answer) → first_answer tests ≡ x → First x tests
  tested x e = subst (λ (y : Answer). First y tests) e (answer-is-first tests)

  fit-first : First (call_fit s t i).answer then
  unfolding call_fit
  fit-first =
      subst (λ (f : Tried). First f.answer then) (sym (fitted-reached t (call_time s i i.arrival) (call_time s i i.departure) i))
      (answer-is-first then)

  on-first : (x : Answer) → first_answer tests ≡ x → First (goes_on_of s t i x).answer (tests ++ then)
  on-first (Err w) e = first-append (Err w) tests then (tested (Err w) e) (λ q. let z : ◌≡◌ {A = ℕ} 0 1 = cc in omega arith)
  on-first (Ok Outside) e = first-append (Ok Outside) tests then (tested (Ok Outside) e) (λ q. let z : ◌≡◌ {A = ℕ} 0 1 = cc in omega arith)
  on-first (Ok Taken) e = first_past (call_fit s t i).answer tests then (call-tests-fail b n i e) fit-first

pub call-answered : CallAnswered
unfolding call_on
call-answered s b n t i = on-first s b n t i (first_answer (call_tests b n i)) refl
