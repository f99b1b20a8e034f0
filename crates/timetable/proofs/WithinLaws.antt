-- A file's load within a limit, by the answer of the reading.
use Rattle.refusal.specs.declared.Accepted.{Accepted}
use Rattle.refusal.specs.declared.Refusal.{Refusal}
use Rattle.std.specs.Prelude.{Err, Ok, Result}
use mathlib.Core.Path.{◌≡◌, refl, ap, sym, ◌∙◌}
use mathlib.Core.Bool.{cond}
use Prim.Native.Nat.{ℕ}
use Rattle.refusal.specs.First.{Answer, is_refused}
use Rattle.limited_rides.specs.declared.Tested.{Tested}
use Rattle.load.specs.declared.Load.{Load}
use Rattle.search.specs.Within.{Answered, sent_back_of, answered_by, within_spec}
use Rattle.file.specs.declared.RecordResult.{RecordResult}
use Rattle.timetable.specs.List.{list_by, within_of, list_within}

module _ (t : RecordResult) (limit : ℕ) where
  pub taken-within : {a : Accepted} → t.answer ≡ Ok a → within_spec t.reader.load limit ≡ within_of t limit
  unfolding within_of
  taken-within e = ap (λ (x : Answer). cond (is_refused x) (sent_back_of t.reader.load x) (within_spec t.reader.load limit)) (sym e)

  pub refused-within : {r : Refusal} → t.answer ≡ Err r → sent_back_of t.reader.load (Err r) ≡ within_of t limit
  unfolding within_of
  refused-within e = ap (λ (x : Answer). cond (is_refused x) (sent_back_of t.reader.load x) (within_spec t.reader.load limit)) (sym e)

-- ---- what is handed on after the search

same-load : (l : Load) (t : Result Tested Refusal) → (answered_by l t).load ≡ l
same-load l (Ok t) = refl
same-load l (Err r) = refl

pub list-found : (l : Load) (t : Result Tested Refusal) {a : Answer} {n : ℕ} {w : Answered} → a ≡ (answered_by l t).answer
    → n ≡ (answered_by l t).joins → answered_by l t ≡ w → list_by a n l ≡ list_within w
list-found l t a-is n-is e = (λ i. list_by (a-is i) (n-is i) (sym (same-load l t) i)) ∙ ap list_within e
