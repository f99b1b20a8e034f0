-- Each call that a dated load took is of a service that runs, and stays so: after it no service and no exception is taken.
use Rattle.refusal.specs.declared.Accepted.TheVariants.{Taken}
use Rattle.std.specs.Prelude.{Ok}
use Prim.Native.Nat.{ℕ}
use mathlib.Core.Path.{◌≡◌, refl, sym, ap, subst, ◌∙◌}
use mathlib.Core.Logic.{◌⊎◌, inl, inr}
use mathlib.Core.Bool.{Bool, true, false, cond, true≢false}
use mathlib.Core.List.Memᴰ
use mathlib.Core.List.{List, [], ◌∷◌, ◌++◌, append-nil, Memᴰ}
use Rattle.refusal.specs.First.{is_taken, is_refused}
use Rattle.refusal.proofs.FirstLaws.{taken_is}
use Rattle.calls.specs.declared.CallInput.{CallInput}
use Rattle.week.specs.declared.Week.{Week}
use Rattle.week.specs.declared.Running.{Running}
use Rattle.week.specs.declared.Running.TheVariants.{Unknown, Rests, Runs}
use Rattle.week.specs.Weeks.{is_dated, WeekStepped, closed_week, running}
use Rattle.week.proofs.SoundLaws.{closed-stays}
use Rattle.load.specs.declared.Load.{Load}
use Rattle.load.specs.Steps.{is_unknown, is_resting, service_spec, exception_spec}
use Rattle.load.specs.FillStep.{FillStep, stop, call, rule, service, exception, filled}
use Rattle.withdrawal.specs.Removal.{without_last}
use Rattle.again.specs.Again.{add_spec_of, withdraw_spec}
use Rattle.steps.specs.Steps.{Step, filling, withdraw, search, limited}
use Rattle.steps.specs.Lists.{next}
use Rattle.steps.proofs.AnsweredLaws.{step-answered}
use Rattle.steps.proofs.WeekLaws.{search-week, within-week, stop-week, rule-week, withdraw-week, add-week, add-closes, step-dated}
use Rattle.comparison.proofs.AfterLaws.{named_filling, taken_after, name_in, input_in, without-mem}

-- the week is closed, and the service runs
abbrev Goes : List ℕ → CallInput → Week → Type 0
Goes name i w = (w.closed ≡ true) × (running w name i.day ≡ Runs)

abbrev pub CallsRun : Load → List FillStep → Type 0
CallsRun l fs = is_dated l.week ≡ true → (name : List ℕ) (i : CallInput) → Memᴰ (call name i) fs → Goes name i l.week

goes-closed : (name : List ℕ) (i : CallInput) (w : Week) → running w name i.day ≡ Runs → Goes name i (closed_week w)
unfolding running
goes-closed name i w e = (refl, e)

-- a step that is no call
none-new : (x : FillStep) (b : Bool) (fs : List FillStep) (name : List ℕ) (i : CallInput) → (call name i ≡ x → ⊥)
    → Memᴰ (call name i) (fs ++ cond b (x ∷ []) []) → Memᴰ (call name i) fs
none-new x false fs name i f m = subst (Memᴰ (call name i)) (append-nil fs) m
none-new x true fs name i f m = go (Memᴰ.append_cases fs m)
  where
    go : Memᴰ (call name i) fs ⊎ Memᴰ (call name i) (x ∷ []) → Memᴰ (call name i) fs
    go (inl k) = k
    go (inr k) = absurd (f (Memᴰ.eq_of_singleton k))

-- a call that is taken is of a service that runs
not-resting : (r : Running) → is_unknown r ≡ false → is_resting r ≡ false → r ≡ Runs
not-resting Unknown u e = absurd (true≢false u)
not-resting Rests u e = absurd (true≢false e)
not-resting Runs u e = refl

call-goes : (l : Load) (name : List ℕ) (i : CallInput) → is_dated l.week ≡ true → is_taken (add_spec_of l name i).answer ≡ true
    → Goes name i (add_spec_of l name i).load.week
unfolding running
call-goes l name i d t =
    let a : (add_spec_of l name i).answer ≡ (Ok Taken) = taken_is (add_spec_of l name i).answer t in
    let f = (step-answered l (filling (call name i))).taken a in
    let r : running l.week name i.day ≡ Runs = not-resting (running l.week name i.day) f.1.0 f.1.1.0 in
    (add-closes l name i d (ap is_refused a), add-week l name i (λ w. running w name i.day ≡ Runs) r r)

-- of the rest of a list, what held goes on
run-less : (l : Load) (n : Load) (fs gs : List FillStep) → n.week ≡ l.week → ((x : FillStep) → Memᴰ x gs → Memᴰ x fs) → CallsRun l fs
    → CallsRun n gs
run-less l n fs gs e f w d name i m = subst (Goes name i) (sym e) (w (ap (λ (v : Week). is_dated v) (sym e) ∙ d) name i (f (call name i) m))

pub step-runs : (l : Load) (x : Step) (fs : List FillStep) → CallsRun l fs → CallsRun (next l x) (taken_after l x fs)
unfolding service_spec exception_spec
step-runs l (filling (stop id nm parent j)) fs w d name i m =
    let e = stop-week l id nm parent j in
    subst (Goes name i) (sym e) (w (ap (λ (v : Week). is_dated v) (sym e) ∙ d) name i
    (none-new (stop id nm parent j) (is_taken (filled l (stop id nm parent j)).answer) fs name i (λ q. cc) m))
step-runs l (filling (rule j)) fs w d name i m =
    let e = rule-week l j in
    subst (Goes name i) (sym e) (w (ap (λ (v : Week). is_dated v) (sym e) ∙ d) name i
    (none-new (rule j) (is_taken (filled l (rule j)).answer) fs name i (λ q. cc) m))
step-runs l (filling (service nm weekdays start end)) fs w d name i m =
    let old = w (sym (step-dated l (filling (service nm weekdays start end))) ∙ d) name i
    (none-new (service nm weekdays start end) (is_taken (filled l (service nm weekdays start end)).answer) fs name i (λ q. cc) m) in
    subst (Goes name i) (sym (ap (λ (r : WeekStepped). r.week) ((closed-stays l.week old.0).service l.searched nm weekdays start end))) old
step-runs l (filling (exception nm date kind)) fs w d name i m =
    let old = w (sym (step-dated l (filling (exception nm date kind))) ∙ d) name i
    (none-new (exception nm date kind) (is_taken (filled l (exception nm date kind)).answer) fs name i (λ q. cc) m) in
    subst (Goes name i) (sym (ap (λ (r : WeekStepped). r.week) ((closed-stays l.week old.0).exception l.searched nm date kind))) old
step-runs l (filling (call nm j)) fs w d name i m = go (is_taken (add_spec_of l nm j).answer) refl m
  where
    was : is_dated l.week ≡ true
    was = sym (step-dated l (filling (call nm j))) ∙ d

    kept : Memᴰ (call name i) fs → Goes name i (add_spec_of l nm j).load.week
    kept k = let old = w was name i k in add-week l nm j (Goes name i) old (goes-closed name i l.week old.1)

    go : (b : Bool) → is_taken (add_spec_of l nm j).answer ≡ b → Memᴰ (call name i) (fs ++ cond b (call nm j ∷ []) [])
        → Goes name i (add_spec_of l nm j).load.week
    go false t m = kept (subst (Memᴰ (call name i)) (append-nil fs) m)
    go true t m = by (Memᴰ.append_cases fs m)
      where
        by : Memᴰ (call name i) fs ⊎ Memᴰ (call name i) (call nm j ∷ []) → Goes name i (add_spec_of l nm j).load.week
        by (inl k) = kept k
        by (inr k) =
            let e = Memᴰ.eq_of_singleton k in
            subst (λ (y : CallInput). Goes name y (add_spec_of l nm j).load.week) (sym (ap (input_in i) e))
            (subst (λ (y : List ℕ). Goes y j (add_spec_of l nm j).load.week) (sym (ap name_in e)) (call-goes l nm j was t))
step-runs l (withdraw k) fs w d name i m = run-less l (next l (withdraw k)) fs (taken_after l (withdraw k) fs) (withdraw-week l k)
    (go (is_taken (withdraw_spec l k).answer)) w d name i m
  where
    go : (b : Bool) (x : FillStep) → Memᴰ x (cond b (without_last (named_filling l.settings l.table_horizon k) fs) fs) → Memᴰ x fs
    go true x m = without-mem (named_filling l.settings l.table_horizon k) fs x m
    go false x m = m
step-runs l search fs w d name i m = run-less l (next l search) fs fs (search-week l) (λ x k. k) w d name i m
step-runs l (limited n) fs w d name i m = run-less l (next l (limited n)) fs fs (within-week l n) (λ x k. k) w d name i m
