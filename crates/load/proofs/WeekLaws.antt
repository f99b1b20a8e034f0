-- What a call does to the week of its load, and where its service runs.
use Rattle.refusal.specs.declared.Accepted.TheVariants.{Outside}
use Rattle.std.specs.Prelude.{Err, Ok}
use Prim.Native.Nat.{ℕ}
use mathlib.Core.Path.{◌≡◌, refl, sym, ap, subst, ◌∙◌}
use mathlib.Core.Bool.{Bool, true, false, not, cond, true≢false}
use mathlib.Core.List.{List, ◌∷◌}
use Rattle.laws.proofs.Bools.{cond-by}
use Rattle.refusal.specs.declared.Refusal.{Refusal}
use Rattle.refusal.specs.declared.Refusal.TheVariants.{AlreadySearched, FieldRange}
use Rattle.refusal.specs.First.{First, hit, miss, is_refused, Answer}
use Rattle.calls.specs.declared.CallInput.{CallInput}
use Rattle.calls.specs.Calls.{known, call_tests}
use Rattle.calls.proofs.ReachedLaws.{call-answered}
use Rattle.week.specs.declared.Week.{Week}
use Rattle.week.specs.declared.Running.{Running}
use Rattle.week.specs.declared.Running.TheVariants.{Runs}
use Rattle.week.specs.Weeks.{is_dated, closed_week, running}
use Rattle.load.specs.declared.Load.{Load}
use Rattle.load.specs.declared.StepResult.{StepResult}
use Rattle.load.specs.Load.{table_of, with_table, with_week}
use Rattle.load.specs.Steps.{call_fitted, plain_call, gate_answer, closing, gated, call_spec}
use Rattle.load.proofs.StepLaws.{Called, without, goes_on, stays_out, sent_back, called, gate-searched, gate-wrong, gate-told, gate-passed}

module _ (l : Load) (i : CallInput) where
  -- the call's own answer where a field test holds
  plain-15 : l.searched ≡ true → (plain_call l i).answer ≡ Err AlreadySearched
  unfolding plain_call call_tests
  plain-15 e = go (call-answered l.settings l.searched l.stop_count (table_of l) i)
    where
      go : {a : Answer} {ts : List (Bool × Answer)} → First a ((l.searched, Err AlreadySearched) ∷ ts) → a ≡ Err AlreadySearched
      go (hit h) = refl
      go (miss h f) = absurd (true≢false (sym e ∙ h))

  plain-9 : l.searched ≡ false → known l.stop_count i ≡ false → (plain_call l i).answer ≡ Err FieldRange
  unfolding plain_call call_tests
  plain-9 e k = go (call-answered l.settings l.searched l.stop_count (table_of l) i)
    where
      go : {a : Answer} {ts : List (Bool × Answer)}
          → First a ((l.searched, Err AlreadySearched) ∷ (not (known l.stop_count i), Err FieldRange) ∷ ts) → a ≡ Err FieldRange
      go (hit h) = absurd (true≢false (sym h ∙ e))
      go (miss h (hit g)) = refl
      go (miss h (miss g f)) = absurd (true≢false (sym (ap not k) ∙ g))

  closing-refused : (r : Refusal) → (plain_call l i).answer ≡ Err r
      → ◌≡◌ {A = StepResult} (record { answer = Err r; load = l }) (closing l (plain_call l i))
  closing-refused r e =
      let same : l ≡ (closing l (plain_call l i)).load = sym (cond-by _ _ (ap is_refused e)) in
      λ k. record { answer = sym e k; load = same k }

  -- a call of a service that runs: the call's own step, which closes the services
  by-gate : (a : Answer) → a ≡ gate_answer l.searched l.stop_count Runs i → gated l i a ≡ closing l (plain_call l i)
  by-gate a e = go l.searched refl (known l.stop_count i) refl
    where
      go : (b : Bool) → l.searched ≡ b → (c : Bool) → known l.stop_count i ≡ c → gated l i a ≡ closing l (plain_call l i)
      go true s c k =
          ap (gated l i) (e ∙ sym (gate-searched l.searched l.stop_count i Runs s)) ∙ closing-refused AlreadySearched (plain-15 s)
      go false s true k = ap (gated l i) (e ∙ sym (gate-told l.searched l.stop_count i Runs s k))
      go false s false k =
          ap (gated l i) (e ∙ sym (gate-wrong l.searched l.stop_count i Runs s k)) ∙ closing-refused FieldRange (plain-9 s k)

module _ (l : Load) (name : List ℕ) (i : CallInput) (d : is_dated l.week ≡ true) where
  pub call-runs : running l.week name i.day ≡ Runs → call_spec l name i ≡ closing l (plain_call l i)
  call-runs e = go _ (called l name i)
    where
      at : gate_answer l.searched l.stop_count (running l.week name i.day) i ≡ gate_answer l.searched l.stop_count Runs i
      at = ap (λ (r : Running). gate_answer l.searched l.stop_count r i) e

      go : (r : StepResult) → Called l name i r → r ≡ closing l (plain_call l i)
      go _ (without n) = absurd (true≢false (sym d ∙ n))
      go _ (goes_on n g) = refl
      go _ (stays_out n g) = by-gate l i (Ok Outside) (sym g ∙ at)
      go _ (sent_back n r g) = by-gate l i (Err r) (sym g ∙ at)

  -- of one that doesn't: the load but for its week
  pub call-rests : {X : Type 0} (f : Load → X) → ((m : Load) (w : Week) → f (with_week m w) ≡ f m) → (running l.week name i.day ≡ Runs → ⊥)
      → f (call_spec l name i).load ≡ f l
  call-rests f k n = go _ (called l name i)
    where
      go : (r : StepResult) → Called l name i r → f r.load ≡ f l
      go _ (without e) = absurd (true≢false (sym d ∙ e))
      go _ (goes_on e g) = absurd (n (gate-passed l.searched l.stop_count i _ g).1.1)
      go _ (stays_out e g) = k l (closed_week l.week)
      go _ (sent_back e r g) = refl

  -- an answered call closes the services
  pub call-closes : is_refused (call_spec l name i).answer ≡ false → (call_spec l name i).load.week ≡ closed_week l.week
  call-closes = go _ (called l name i)
    where
      shut : (b : Bool) → b ≡ false → (cond b l (with_week (plain_call l i).load (closed_week l.week))).week ≡ closed_week l.week
      shut true e = absurd (true≢false e)
      shut false e = refl

      go : (r : StepResult) → Called l name i r → is_refused r.answer ≡ false → r.load.week ≡ closed_week l.week
      go _ (without n) e = absurd (true≢false (sym d ∙ n))
      go _ (goes_on n g) e = shut (is_refused (plain_call l i).answer) e
      go _ (stays_out n g) e = refl
      go _ (sent_back n r g) e = absurd (true≢false e)

-- the call's own step keeps the week
pub plain-week : (l : Load) (i : CallInput) → (plain_call l i).load.week ≡ l.week
unfolding plain_call
plain-week l i = go (is_refused (call_fitted l i).answer)
  where
    go : (b : Bool) → (cond b l (with_table l (call_fitted l i).table)).week ≡ l.week
    go true = refl
    go false = refl

-- the week after a call: as it was, or closed
pub call-week : (l : Load) (name : List ℕ) (i : CallInput) (P : Week → Type 0) → P l.week → P (closed_week l.week)
    → P (call_spec l name i).load.week
call-week l name i P p q = go _ (called l name i)
  where
    shut : (b : Bool) → P (cond b l (with_week (plain_call l i).load (closed_week l.week))).week
    shut true = p
    shut false = q

    go : (r : StepResult) → Called l name i r → P r.load.week
    go _ (without n) = subst P (sym (plain-week l i)) p
    go _ (goes_on n g) = shut (is_refused (plain_call l i).answer)
    go _ (stays_out n g) = q
    go _ (sent_back n r g) = p
