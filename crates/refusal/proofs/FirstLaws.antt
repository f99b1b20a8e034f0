-- The laws of `first_answer`: it is the answer of the first test that holds, and a taken step failed every test.
use Rattle.refusal.specs.declared.Accepted.{Accepted}
use Rattle.refusal.specs.declared.Accepted.TheVariants.{Taken, Outside}
use Rattle.std.specs.Prelude.{Err, Ok}
use mathlib.Core.Path.{◌≡◌, refl, sym, ap, ◌∙◌}
use mathlib.Core.Bool.{Bool, true, false, not, cond, ◌&&◌, false≢true}
use mathlib.Core.List.{List, [], ◌∷◌, ◌++◌}
use Rattle.refusal.specs.First.{is_taken, first_answer, First, none, hit, miss, AllFail, FirstIsAnswer, AnswerIsFirst, NeverTaken}
use Rattle.refusal.specs.First.{TakenAllFail, Answer}

pub first-is-answer : FirstIsAnswer
unfolding first_answer
first-is-answer a [] none = refl
first-is-answer a (t ∷ ts) (hit e) = rw e
first-is-answer a (t ∷ ts) (miss e f) = rw e (first-is-answer a ts f)

pub answer-is-first : AnswerIsFirst
unfolding first_answer
answer-is-first [] = none
answer-is-first ((b, a) ∷ ts) = go b refl (answer-is-first ts)
  where
    go : (c : Bool) → b ≡ c → First (first_answer ts) ts → First (cond c a (first_answer ts)) ((b, a) ∷ ts)
    go true e f = hit e
    go false e f = miss e f

pub taken-all-fail : TakenAllFail
unfolding first_answer
taken-all-fail [] n e = tt
taken-all-fail ((b, a) ∷ ts) (n, ns) e = go b refl (taken-all-fail ts ns) e
  where
    go : (c : Bool) → b ≡ c → (first_answer ts ≡ Ok Taken → AllFail ts) → cond c a (first_answer ts) ≡ Ok Taken → (b ≡ false) × AllFail ts
    go true q ih k = absurd (n k)
    go false q ih k = (q, ih k)

pub taken_is : (a : Answer) → is_taken a ≡ true → a ≡ Ok Taken
taken_is (Ok Taken) e = refl
taken_is (Ok Outside) e = absurd (false≢true e)
taken_is (Err r) e = absurd (false≢true e)

-- no test of a list answers `Taken`
abbrev pub takes_none : List (Bool × Answer) → Bool
takes_none [] = true
takes_none (t ∷ ts) = not (is_taken t.1) && takes_none ts

pub never-taken : (ts : List (Bool × Answer)) → takes_none ts ≡ true → NeverTaken ts
never-taken [] e = tt
never-taken ((b, Ok Taken) ∷ ts) e = absurd (false≢true e)
never-taken ((b, Ok Outside) ∷ ts) e = (λ q. false≢true (ap is_taken q), never-taken ts e)
never-taken ((b, Err r) ∷ ts) e = (λ q. false≢true (ap is_taken q), never-taken ts e)

-- so a taken step failed every test
pub first_taken : (a : Answer) (ts : List (Bool × Answer)) → takes_none ts ≡ true → First a ts → a ≡ Ok Taken → AllFail ts
first_taken a ts n f e = taken-all-fail ts (never-taken ts n) (sym (first-is-answer a ts f) ∙ e)

-- an answer of the first tests is that of all, unless it is `Taken`
pub first-append : (a : Answer) (ts us : List (Bool × Answer)) → First a ts → (a ≡ Ok Taken → ⊥) → First a (ts ++ us)
first-append a [] us none n = absurd (n refl)
first-append a (t ∷ ts) us (hit e) n = hit e
first-append a (t ∷ ts) us (miss e f) n = miss e (first-append a ts us f n)

-- where every first test fails, the others decide
pub first_past : (a : Answer) (ts us : List (Bool × Answer)) → AllFail ts → First a us → First a (ts ++ us)
first_past a [] us n f = f
first_past a ((b, c) ∷ ts) us (e, n) f = miss e (first_past a ts us n f)

-- an answer that is some `Ok`, by which one
pub ok_is : {r : Answer} {x a : Accepted} → r ≡ Ok x → x ≡ a → r ≡ Ok a
ok_is e d = e ∙ ap Ok d
