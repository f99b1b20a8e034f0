-- A step's tests in the order of RULES 16.2, each with the answer that it gives; the first that holds decides.
use Rattle.refusal.specs.declared.Refusal.{Refusal}
use Rattle.refusal.specs.declared.Accepted.{Accepted}
use Rattle.refusal.specs.declared.Accepted.TheVariants.{Taken, Outside}
use Rattle.std.specs.Prelude.{◌≡◌, ◌⊎◌, Bool, true, false, cond, List, [], ◌∷◌, ℕ, Result, Err, Ok}
use Rattle.std.proofs.Common.{inl, inr}
use Rattle.refusal.specs.Causes.{number_of}

-- what a step answers: what became of it, or why it is sent back
abbrev pub Answer : Type 0
Answer = Result Accepted Refusal

-- the answer of the first test that holds; taken where none does
unfoldable pub first_answer : List (Bool × Answer) → Answer
first_answer [] = Ok Taken
first_answer (t ∷ ts) = cond t.0 t.1 (first_answer ts)

-- `a` is the answer of the first test that holds, or `Taken` where every test fails
pub data First : Answer → List (Bool × Answer) → Type 0 where
  none : First (Ok Taken) []
  hit : {a : Answer} {b : Bool} {ts : List (Bool × Answer)} → b ≡ true → First a ((b, a) ∷ ts)
  miss : {a c : Answer} {b : Bool} {ts : List (Bool × Answer)} → b ≡ false → First a ts → First a ((b, c) ∷ ts)

-- every test fails
abbrev pub AllFail : List (Bool × Answer) → Type 0
AllFail [] = Unit {0}
AllFail (t ∷ ts) = (t.0 ≡ false) × AllFail ts

-- whether an answer sends the step back
abbrev pub is_refused : Answer → Bool
is_refused (Ok a) = false
is_refused (Err r) = true

abbrev pub is_taken : Answer → Bool
is_taken (Ok Taken) = true
is_taken (Ok Outside) = false
is_taken (Err r) = false

-- the number that an answer carries, 0 where the step is not sent back
abbrev pub answer_number : Answer → ℕ
answer_number (Ok a) = 0
answer_number (Err r) = number_of r

-- the value of each case: taken and outside, which have no number; or the number of the cause
abbrev pub answer_value : Answer → Bool ⊎ ℕ
answer_value (Ok Taken) = inl true
answer_value (Ok Outside) = inl false
answer_value (Err r) = inr (number_of r)

-- no two answers have one value
abbrev pub ValueTells : Type 0
ValueTells = (a b : Answer) → answer_value a ≡ answer_value b → a ≡ b

-- `first_answer` and `First` say the same
abbrev pub FirstIsAnswer : Type 0
FirstIsAnswer = (a : Answer) (ts : List (Bool × Answer)) → First a ts → a ≡ first_answer ts

abbrev pub AnswerIsFirst : Type 0
AnswerIsFirst = (ts : List (Bool × Answer)) → First (first_answer ts) ts

-- where every test's answer is no `Taken`, a taken step failed every test
abbrev pub NeverTaken : List (Bool × Answer) → Type 0
NeverTaken [] = Unit {0}
NeverTaken (t ∷ ts) = (t.1 ≡ Ok Taken → ⊥) × NeverTaken ts

abbrev pub TakenAllFail : Type 0
TakenAllFail = (ts : List (Bool × Answer)) → NeverTaken ts → first_answer ts ≡ Ok Taken → AllFail ts
