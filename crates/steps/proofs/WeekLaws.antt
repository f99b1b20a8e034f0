-- What each step does to the week of its load: a call that is answered closes the services, and only services and exceptions alter it else.
use Rattle.std.specs.Prelude.{Err, Option}
use Prim.Native.Nat.{ℕ}
use mathlib.Core.Path.{◌≡◌, refl, sym, ap, subst, ◌∙◌}
use mathlib.Core.Bool.{Bool, true, false, cond, true≢false}
use mathlib.Core.List.{List}
use Rattle.refusal.specs.declared.Refusal.TheVariants.{AlreadySearched}
use Rattle.refusal.specs.First.{is_taken, is_refused}
use Rattle.stops.specs.declared.StopInput.{StopInput}
use Rattle.calls.specs.declared.CallInput.{CallInput}
use Rattle.rules.specs.declared.Rule.{Rule}
use Rattle.offers.specs.Search.{Outcome, clashing, falling, found, answer_of}
use Rattle.calls.specs.declared.CallKey.{CallKey}
use Rattle.week.specs.declared.Week.{Week}
use Rattle.week.specs.Weeks.{is_dated, WeekStepped, closed_week, service_answer, service_on, exception_answer, exception_on}
use Rattle.week.proofs.SoundLaws.{closed-stays}
use Rattle.load.specs.declared.Load.{Load}
use Rattle.load.specs.declared.StepResult.{StepResult}
use Rattle.load.specs.Load.{with_week}
use Rattle.load.specs.Steps.{stop_answer, stop_spec, call_spec, rule_answer, rule_spec, service_spec, exception_spec}
use Rattle.load.specs.FillStep.{stop, call, rule, service, exception}
use Rattle.load.proofs.WeekLaws.{call-closes, call-week}
use Rattle.search.specs.Search.{outcome_of, settled, search_spec}
use Rattle.search.specs.Within.{ran_within, within_spec}
use Rattle.search.proofs.WithinLaws.{within-cases, within-keeps}
use Rattle.again.specs.Again.{unsearched_of, researched, again, leaves_table_of, added_to, add_spec_of, taken_out, withdraw_spec}
use Rattle.again.proofs.KeptLaws.{again-keeps}
use Rattle.again.proofs.ResearchLaws.{research-cases, researched-keeps}
use Rattle.again.proofs.SoundLaws.{out_cases}
use Rattle.again.proofs.SearchedLaws.{added_by}
use Rattle.steps.specs.Steps.{Step, filling, withdraw, search, limited}
use Rattle.steps.specs.Lists.{next}

week-kept : (l : Load) (o : Outcome) → (settled l o).week ≡ l.week
week-kept l clashing = refl
week-kept l falling = refl
week-kept l (found ks h m) = refl

-- a search, a stop and a rule keep the week
pub search-week : (l : Load) → (search_spec l).load.week ≡ l.week
unfolding search_spec
search-week l = go l.searched
  where
    go : (b : Bool) → (cond {A = StepResult} b (record { answer = Err AlreadySearched; load = l })
        (record { answer = answer_of (outcome_of l); load = settled l (outcome_of l) })).load.week ≡ l.week
    go true = refl
    go false = week-kept l (outcome_of l)

pub within-week : (l : Load) (n : ℕ) → (within_spec l n).load.week ≡ l.week
within-week l n = within-keeps (λ m. m.week) l n (λ ks h m k. refl)

research-week : (limit : Option ℕ) (m : Load) → (researched limit m).load.week ≡ m.week
research-week limit m = researched-keeps limit m (λ x. x.week) (λ ks h k n. refl)

either-week : (l m : Load) (b : Bool) → m.week ≡ l.week → (cond b m l).week ≡ l.week
either-week l m true e = e
either-week l m false e = refl

pub stop-week : (l : Load) (id : List ℕ) (name parent : Option (List ℕ)) (i : StopInput) → (stop_spec l id name parent i).load.week ≡ l.week
unfolding stop_spec
stop-week l id name parent i = either-week l _ (is_taken (stop_answer l id name parent i)) refl

pub rule-week : (l : Load) (i : Rule) → (rule_spec l i).load.week ≡ l.week
unfolding rule_spec
rule-week l i = either-week l _ (is_taken (rule_answer l i)) refl

-- ---- call and withdrawal

pub back-week : (l : Load) → (unsearched_of l).week ≡ l.week
unfolding unsearched_of
back-week l = refl

pub withdraw-week : (l : Load) (k : CallKey) → (withdraw_spec l k).load.week ≡ l.week
unfolding withdraw_spec
withdraw-week l k = go l.searched
  where
    out : (m : Load) → (taken_out m k).load.week ≡ m.week
    out m = out_cases m k (λ r. r.load.week ≡ m.week) (λ e. refl) (λ e f. refl) (λ g. refl)

    go : (b : Bool) → (cond b (again l (taken_out (unsearched_of l) k)) (taken_out l k)).load.week ≡ l.week
    go true = again-keeps (λ m. m.week) research-week (λ w. w ≡ l.week) l (taken_out (unsearched_of l) k) refl
        (out (unsearched_of l) ∙ back-week l)
    go false = out l

-- as it was, or closed
pub add-week : (l : Load) (name : List ℕ) (i : CallInput) (P : Week → Type 0) → P l.week → P (closed_week l.week)
    → P (add_spec_of l name i).load.week
unfolding add_spec_of added_to
add-week l name i P p q = go l.searched (leaves_table_of l (call_spec (unsearched_of l) name i))
  where
    made : P (call_spec (unsearched_of l) name i).load.week
    made = call-week (unsearched_of l) name i P (subst P (sym (back-week l)) p)
        (subst (λ (w : Week). P (closed_week w)) (sym (back-week l)) q)

    go : (b c : Bool)
        → P (cond b (cond {A = StepResult} c (record {
          answer = (call_spec (unsearched_of l) name i).answer;
          load = with_week l (call_spec (unsearched_of l) name i).load.week;
        }) (again l (call_spec (unsearched_of l) name i)))
        (call_spec l name i)).load.week
    go true true = made
    go true false = again-keeps (λ m. m.week) research-week P l (call_spec (unsearched_of l) name i) p made
    go false c = call-week l name i P p q

-- a search is taken or refused
search-told : (m : Load) → is_taken (search_spec m).answer ≡ false → is_refused (search_spec m).answer ≡ true
unfolding search_spec
search-told m e = go m.searched (outcome_of m) e
  where
    go : (b : Bool) (o : Outcome) → is_taken (cond {A = StepResult} b (record { answer = Err AlreadySearched; load = m })
        (record { answer = answer_of o; load = settled m o })).answer ≡ false
        → is_refused (cond {A = StepResult} b (record { answer = Err AlreadySearched; load = m })
        (record { answer = answer_of o; load = settled m o })).answer ≡ true
    go true o e = refl
    go false clashing e = refl
    go false falling e = refl
    go false (found ks h k) e = absurd (true≢false e)

within-told : (m : Load) (n : ℕ) → is_taken (within_spec m n).answer ≡ false → is_refused (within_spec m n).answer ≡ true
within-told m n = within-cases m n (λ w. is_taken w.answer ≡ false → is_refused w.answer ≡ true) (λ e q. refl) (λ e f q. refl)
    (λ e f o w q. go o q)
  where
    go : (o : Outcome) → is_taken (ran_within m n o).answer ≡ false → is_refused (ran_within m n o).answer ≡ true
    go clashing e = refl
    go falling e = refl
    go (found ks h k) e = absurd (true≢false e)

research-told : (limit : Option ℕ) (m : Load) → is_taken (researched limit m).answer ≡ false → is_refused (researched limit m).answer ≡ true
research-told limit m = research-cases limit m (λ r. is_taken r.answer ≡ false → is_refused r.answer ≡ true) (λ n w. within-told m n)
    (search-told m)

-- an answered call closes the services
added-closes : (l : Load) (r : StepResult) → (is_refused r.answer ≡ false → r.load.week.closed ≡ true)
    → is_refused (added_to l r).answer ≡ false → (added_to l r).load.week.closed ≡ true
unfolding added_to again
added-closes l r h e = go (leaves_table_of l r) (is_refused r.answer) (is_taken (researched l.limit r.load).answer) refl refl e
  where
    go : (b c d : Bool) → is_refused r.answer ≡ c → is_taken (researched l.limit r.load).answer ≡ d
        → is_refused (added_by l r b c d).answer ≡ false → (added_by l r b c d).load.week.closed ≡ true
    go true c d x y e = h e
    go false true d x y e = absurd (true≢false (sym x ∙ e))
    go false false true x y e = ap (λ (w : Week). w.closed) (research-week l.limit r.load) ∙ h e
    go false false false x y e = absurd (true≢false (sym (research-told l.limit r.load y) ∙ e))

pub add-closes : (l : Load) (name : List ℕ) (i : CallInput) → is_dated l.week ≡ true → is_refused (add_spec_of l name i).answer ≡ false
    → (add_spec_of l name i).load.week.closed ≡ true
unfolding add_spec_of
add-closes l name i d e = go l.searched e
  where
    closes : (m : Load) → is_dated m.week ≡ true → is_refused (call_spec m name i).answer ≡ false
        → (call_spec m name i).load.week.closed ≡ true
    closes m q f = ap (λ (w : Week). w.closed) (call-closes m name i q f)

    go : (b : Bool) → (let x = cond b (added_to l (call_spec (unsearched_of l) name i)) (call_spec l name i) in
        is_refused x.answer ≡ false → x.load.week.closed ≡ true)
    go true e = added-closes l (call_spec (unsearched_of l) name i)
        (closes (unsearched_of l) (ap (λ (w : Week). is_dated w) (back-week l) ∙ d)) e
    go false e = closes l d e

-- ---- any step

-- what holds of a week, of the week closed, and of what services and exceptions leave, holds after a step
pub step-week : (P : Week → Type 0) (l : Load) (x : Step) → P l.week → P (closed_week l.week)
    → ((name : List ℕ) (weekdays start end : ℕ) → P (service_on l.week l.searched name weekdays start end).week)
    → ((name : List ℕ) (date kind : ℕ) → P (exception_on l.week l.searched name date kind).week) → P (next l x).week
unfolding service_spec exception_spec
step-week P l (filling (stop id name parent i)) p q f g = subst P (sym (stop-week l id name parent i)) p
step-week P l (filling (call name i)) p q f g = add-week l name i P p q
step-week P l (filling (rule i)) p q f g = subst P (sym (rule-week l i)) p
step-week P l (filling (service name weekdays start end)) p q f g = f name weekdays start end
step-week P l (filling (exception name date kind)) p q f g = g name date kind
step-week P l (withdraw k) p q f g = subst P (sym (withdraw-week l k)) p
step-week P l search p q f g = subst P (sym (search-week l)) p
step-week P l (limited n) p q f g = subst P (sym (within-week l n)) p

either-dated : (w v : Week) (b : Bool) → is_dated v ≡ is_dated w → is_dated (cond b v w) ≡ is_dated w
either-dated w v true e = e
either-dated w v false e = refl

service-dated : (w : Week) (searched : Bool) (name : List ℕ) (weekdays start end : ℕ)
    → is_dated (service_on w searched name weekdays start end).week ≡ is_dated w
unfolding service_on
service-dated w searched name weekdays start end = either-dated w _ (is_taken (service_answer w searched name start end)) refl

exception-dated : (w : Week) (searched : Bool) (name : List ℕ) (date kind : ℕ)
    → is_dated (exception_on w searched name date kind).week ≡ is_dated w
unfolding exception_on
exception-dated w searched name date kind = either-dated w _ (is_taken (exception_answer w searched name date kind)) refl

pub step-dated : (l : Load) (x : Step) → is_dated (next l x).week ≡ is_dated l.week
step-dated l x = step-week (λ w. is_dated w ≡ is_dated l.week) l x refl refl
    (λ name weekdays start end. service-dated l.week l.searched name weekdays start end)
    (λ name date kind. exception-dated l.week l.searched name date kind)

pub step-closed : (l : Load) (x : Step) → l.week.closed ≡ true → (next l x).week.closed ≡ true
step-closed l x c = step-week (λ w. w.closed ≡ true) l x c refl
    (λ name weekdays start end. ap (λ (r : WeekStepped). r.week.closed)
    ((closed-stays l.week c).service l.searched name weekdays start end) ∙ c)
    (λ name date kind. ap (λ (r : WeekStepped). r.week.closed) ((closed-stays l.week c).exception l.searched name date kind) ∙ c)
