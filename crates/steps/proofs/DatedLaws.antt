-- A dated load and the load without dates that is handed only the calls of running services differ in their weeks alone.
use Rattle.refusal.specs.First.{Answer}
use Rattle.std.specs.Prelude.{Err}
use mathlib.Core.Path.{◌≡◌, refl, sym, ap, ap₂, ◌∙◌}
use mathlib.Core.Bool.{Bool, true, false, cond}
use mathlib.Core.List.{List, [], ◌∷◌, ◌++◌}
use Prim.Native.Nat.{ℕ}
use Rattle.refusal.specs.declared.Refusal.TheVariants.{AlreadySearched}
use Rattle.settings.specs.declared.Settings.{Settings}
use Rattle.calls.specs.declared.CallInput.{CallInput}
use Rattle.week.specs.declared.Week.{Week}
use Rattle.week.specs.declared.Running.{Running}
use Rattle.week.specs.declared.Running.TheVariants.{Unknown, Rests, Runs}
use Rattle.week.specs.Weeks.{is_dated, WeekStepped, dated_week, running}
use Rattle.week.proofs.SoundLaws.{closed-stays}
use Rattle.load.specs.declared.Load.{Load}
use Rattle.load.specs.declared.StepResult.{StepResult}
use Rattle.load.specs.Load.{empty_of}
use Rattle.load.specs.Steps.{undated, dated, opened, call_spec, service_spec, exception_spec}
use Rattle.load.specs.FillStep.{stop, call, rule, service, exception}
use Rattle.load.proofs.StepLaws.{call-undated}
use Rattle.again.specs.Again.{unsearched_of, added_to, add_spec_of}
use Rattle.best.specs.Best.{kept_of}
use Rattle.steps.specs.Steps.{Step, filling, withdraw, search, limited, stepped}
use Rattle.steps.specs.Lists.{next, handed}
use Rattle.steps.specs.Dated.{if_runs, passed, passed_of, answers_to, same_for, passed_answers, DatedSame, LateServices, NameUnread}
use Rattle.steps.proofs.BareLaws.{bare, bared, bare-stop, bare-rule, bare-search, bare-limited, bare-withdraw, bare-add, bare-rests}
use Rattle.steps.proofs.WeekLaws.{back-week, add-closes, step-dated, step-closed}

not-unknown : Unknown ≡ Runs → ⊥
not-unknown e = cc

not-rests : Rests ≡ Runs → ⊥
not-rests e = cc

-- ---- one step

pub record Follows (l : Load) (x : Step) : Type 0 where
  pub load : handed (bare l) (passed l x) ≡ bare (next l x)
  pub answers : same_for (passed l x) (stepped l x).answer ≡ answers_to (bare l) (passed l x)

-- passed on as it is, or as another that is answered alike
one-passed : (l : Load) (x y : Step) → passed l x ≡ y ∷ [] → stepped (bare l) y ≡ bared (stepped l x) → Follows l x
one-passed l x y p e = record {
  load = ap (handed (bare l)) p ∙ ap (λ (r : StepResult). r.load) e;
  answers = (λ k. same_for (p k) (stepped l x).answer) ∙ ap (λ (r : StepResult). r.answer ∷ []) (sym e) ∙ ap (answers_to (bare l)) (sym p);
}

none_passed : (l : Load) (x : Step) → passed l x ≡ [] → bare (next l x) ≡ bare l → Follows l x
none_passed l x p e = record {
  load = ap (handed (bare l)) p ∙ sym e;
  answers = (λ k. same_for (p k) (stepped l x).answer) ∙ ap (answers_to (bare l)) (sym p);
}

call-follows : (l : Load) (name : List ℕ) (i : CallInput) → is_dated l.week ≡ true → Follows l (filling (call name i))
call-follows l name i d = go (running l.week name i.day) refl
  where
    go : (r : Running) → running l.week name i.day ≡ r → Follows l (filling (call name i))
    go Unknown e = none_passed l _ (ap (λ (r : Running). if_runs r (filling (call [] i))) e)
        (bare-rests l name i d (λ q. not-unknown (sym e ∙ q)))
    go Rests e = none_passed l _ (ap (λ (r : Running). if_runs r (filling (call [] i))) e)
        (bare-rests l name i d (λ q. not-rests (sym e ∙ q)))
    go Runs e = one-passed l _ (filling (call [] i)) (ap (λ (r : Running). if_runs r (filling (call [] i))) e) (bare-add l name i d e)

follows : (l : Load) (x : Step) → is_dated l.week ≡ true → Follows l x
unfolding service_spec exception_spec
follows l (filling (stop id name parent i)) d = one-passed l _ _ refl (bare-stop l id name parent i)
follows l (filling (call name i)) d = call-follows l name i d
follows l (filling (rule i)) d = one-passed l _ _ refl (bare-rule l i)
follows l (filling (service name weekdays start end)) d = none_passed l _ refl refl
follows l (filling (exception name date kind)) d = none_passed l _ refl refl
follows l (withdraw k) d = one-passed l _ _ refl (bare-withdraw l k)
follows l search d = one-passed l _ _ refl (bare-search l)
follows l (limited n) d = one-passed l _ _ refl (bare-limited l n)

-- ---- a list

handed-append : (xs ys : List Step) (l : Load) → handed l (xs ++ ys) ≡ handed (handed l xs) ys
handed-append [] ys l = refl
handed-append (x ∷ xs) ys l = handed-append xs ys (next l x)

answers-append : (xs ys : List Step) (l : Load) → answers_to l (xs ++ ys) ≡ answers_to l xs ++ answers_to (handed l xs) ys
answers-append [] ys l = refl
answers-append (x ∷ xs) ys l = ap (λ (rs : List Answer). (stepped l x).answer ∷ rs) (answers-append xs ys (next l x))

list-follows : (xs : List Step) (l : Load) → is_dated l.week ≡ true → handed (bare l) (passed_of l xs) ≡ bare (handed l xs)
list-follows [] l d = refl
list-follows (x ∷ xs) l d =
    handed-append (passed l x) (passed_of (next l x) xs) (bare l)
    ∙ ap (λ (m : Load). handed m (passed_of (next l x) xs)) (follows l x d).load
    ∙ list-follows xs (next l x) (step-dated l x ∙ d)

list-answers : (xs : List Step) (l : Load) → is_dated l.week ≡ true → passed_answers l xs ≡ answers_to (bare l) (passed_of l xs)
list-answers [] l d = refl
list-answers (x ∷ xs) l d =
    ap₂ (λ (rs qs : List Answer). rs ++ qs) (follows l x d).answers (list-answers xs (next l x) (step-dated l x ∙ d))
    ∙ ap (λ (m : Load). answers_to (bare l) (passed l x) ++ answers_to m (passed_of (next l x) xs)) (sym (follows l x d).load)
    ∙ sym (answers-append (passed l x) (passed_of (next l x) xs) (bare l))

opened-bare : (s : Settings) (dates : List ℕ) → bare (opened (dated s dates)) ≡ opened (undated s)
unfolding empty_of
opened-bare s dates = refl

opened-dated : (s : Settings) (dates : List ℕ) → is_dated (opened (dated s dates)).week ≡ true
unfolding empty_of dated_week
opened-dated s dates = refl

pub dated-same : DatedSame
dated-same s dates xs =
    let l = opened (dated s dates) in
    let d = opened-dated s dates in
    let same : bare (handed l xs) ≡ handed (opened (undated s)) (passed_of l xs) =
    sym (list-follows xs l d) ∙ ap (λ (m : Load). handed m (passed_of l xs)) (opened-bare s dates) in
    record {
      load = same;
      answers = list-answers xs l d ∙ ap (λ (m : Load). answers_to m (passed_of l xs)) (opened-bare s dates);
      list = ap kept_of same;
      horizon = ap (λ (m : Load). m.horizon) same;
      limits = ap (λ (m : Load). m.limits) same;
    }

-- ---- services that come late

list-closed : (xs : List Step) (l : Load) → l.week.closed ≡ true → (handed l xs).week.closed ≡ true
list-closed [] l c = c
list-closed (x ∷ xs) l c = list-closed xs (next l x) (step-closed l x c)

closed-answers : (l : Load) → l.week.closed ≡ true
    → ((name : List ℕ) (weekdays start end : ℕ) → (stepped l (filling (service name weekdays start end))).answer ≡ Err AlreadySearched)
    × ((name : List ℕ) (date kind : ℕ) → (stepped l (filling (exception name date kind))).answer ≡ Err AlreadySearched)
unfolding service_spec exception_spec
closed-answers l c = (
  λ name weekdays start end. ap (λ (r : WeekStepped). r.answer) ((closed-stays l.week c).service l.searched name weekdays start end),
  λ name date kind. ap (λ (r : WeekStepped). r.answer) ((closed-stays l.week c).exception l.searched name date kind),
)

pub late-services : LateServices
late-services l called i xs d e = closed-answers (handed (next l (filling (call called i))) xs)
    (list-closed xs (next l (filling (call called i))) (add-closes l called i d e))

pub name-unread : NameUnread
unfolding add_spec_of
name-unread l name i d = go l.searched
  where
    unread : (m : Load) → is_dated m.week ≡ false → call_spec m name i ≡ call_spec m [] i
    unread m q = sym (call-undated m name i q) ∙ call-undated m [] i q

    go : (b : Bool) → cond b (added_to l (call_spec (unsearched_of l) name i)) (call_spec l name i)
        ≡ cond b (added_to l (call_spec (unsearched_of l) [] i)) (call_spec l [] i)
    go true = ap (added_to l) (unread (unsearched_of l) (ap (λ (w : Week). is_dated w) (back-week l) ∙ d))
    go false = unread l d
