-- Each step of a list is answered for the first of its causes, and the load holds what its answers say was taken.
use Rattle.steps.proofs.HeldLaws.{opened_new}
use Rattle.refusal.specs.declared.Accepted.TheVariants.{Taken, Outside}
use Rattle.std.specs.Prelude.{None, Option, Some, Err, Ok}
use mathlib.Core.Path.{◌≡◌, refl, sym, ap, subst, ◌∙◌}
use mathlib.Core.Bool.{Bool, true, false, cond, true≢false}
use mathlib.Core.Logic.{inl}
use mathlib.Core.List.Memᴰ
use mathlib.Core.List.Permᴰ
use mathlib.Core.List.{List, [], ◌∷◌, ◌++◌, append-nil, Memᴰ}
use Prim.Native.Nat.{ℕ, ◌+◌, ◌≤◌}
use lib.ListN.{set}
use Rattle.refusal.specs.declared.Refusal.TheVariants.{AlreadySearched}
use Rattle.refusal.specs.First.{first_answer, is_taken, is_refused, Answer}
use Rattle.refusal.proofs.FirstLaws.{first-is-answer}
use Rattle.settings.specs.declared.Settings.{Settings}
use Rattle.stops.specs.declared.StopInput.{StopInput}
use Rattle.stops.specs.Answer.{stop_tests}
use Rattle.stops.specs.Taken.{stop_of}
use Rattle.calls.specs.declared.CallInput.{CallInput}
use Rattle.rules.specs.declared.Rule.{Rule}
use Rattle.rules.specs.Rules.{rule_tests}
use Rattle.calls.specs.declared.CallKey.{CallKey}
use Rattle.withdrawal.specs.Removal.{without_last}
use Rattle.load.specs.declared.Load.{Load}
use Rattle.load.specs.declared.StepResult.{StepResult}
use Rattle.load.specs.Load.{empty_of, with_stops, with_rules, with_week, stopped}
use Rattle.load.specs.Steps.{Opening, opened, station_in, stop_answer, stop_spec, closed_load, call_spec, rule_answer, rule_spec}
use Rattle.load.specs.Steps.{service_spec, exception_spec}
use Rattle.load.specs.FillStep.{FillStep, stop, call, rule, service, exception, filled}
use Rattle.load.specs.Sound.{Opens}
use Rattle.laws.proofs.Bools.{cond-not, or-true-left}
use Rattle.laws.proofs.Sort.{perm-mem}
use Rattle.services.specs.Exceptions.{days_on, excepted_of}
use Rattle.week.specs.Weeks.{dates_in, undated_week, dated_week, service_of, with_services, service_tests, service_answer, service_on}
use Rattle.week.specs.Weeks.{exception_tests, exception_answer, place_in, service_in, exception_on}
use Rattle.search.specs.Search.{search_spec}
use Rattle.search.specs.Within.{Answered, within_spec}
use Rattle.search.proofs.WithinLaws.{within-again}
use Rattle.again.specs.Again.{unsearched_of, add_spec_of, taken_out, withdraw_spec}
use Rattle.again.specs.Claims.{Kept}
use Rattle.steps.specs.Steps.{Step, filling, withdraw, search, limited, stepped, causes}
use Rattle.steps.specs.Lists.{next, handed}
use Rattle.steps.proofs.StepLaws.{first_holds, filled-stays, search-stays, filled-searched}
use Rattle.steps.proofs.AnsweredLaws.{step-answered}
use Rattle.steps.proofs.ShownLaws.{raw_earlier}
use Rattle.steps.proofs.WithdrawnLaws.{step_kept, end_kept}
use Rattle.comparison.specs.Taken.{calls_in, State, fresh}
use Rattle.comparison.specs.Causes.{First, causes_of}
use Rattle.comparison.specs.Runs.{in_full, After, sent_back, a_stop, a_rule, a_call, resting, outside, a_service, an_exception, Runs, end}
use Rattle.comparison.specs.Runs.{step}
use Rattle.comparison.specs.Demands.{answers_from}
use Rattle.comparison.proofs.Deciding.{Matches, first_matches}
use Rattle.comparison.proofs.TakenLaws.{given}
use Rattle.comparison.proofs.SettingLaws.{Opened, opens}
use Rattle.comparison.proofs.AfterLaws.{named_filling, taken_after}
use Rattle.comparison.proofs.RunningLaws.{CallsRun, step-runs}
use Rattle.comparison.proofs.StartLaws.{Start, opened-start, no_limit, state_at}
use Rattle.comparison.proofs.AsideLaws.{apart, apart-like}
use Rattle.comparison.proofs.CauseLaws.{stop-match, rule-match}
use Rattle.comparison.proofs.ServiceLaws.{service-match, exception-match}
use Rattle.comparison.proofs.CallLaws.{call-match}
use Rattle.comparison.proofs.ComesLaws.{awake-so, rests-so, Came, Comes, came, rested, back, comes, fill_start}
use Rattle.comparison.proofs.AddedLaws.{added-match}
use Rattle.comparison.proofs.SearchingLaws.{search-match, limited-match}
use Rattle.comparison.proofs.SearchedLaws.{Leaves, stays-so, same-leaves, few-changes}
use Rattle.comparison.proofs.SearchStepLaws.{search-so, limited-so}
use Rattle.comparison.proofs.AddedStepLaws.{added-leaves}
use Rattle.comparison.proofs.WithdrawLaws.{withdraw-match, withdrawn-so, withdrawn-match, withdrawn-leaves-so}

-- ---- a step that is only taken or sent back

abbrev Refuse : List (Bool × Answer) → Type 0
Refuse [] = Unit {0}
Refuse (t ∷ ts) = (is_refused t.1 ≡ true) × Refuse ts

never-outside : (ts : List (Bool × Answer)) → Refuse ts → first_answer ts ≡ Ok Outside → ⊥
unfolding first_answer
never-outside [] w e = cc
never-outside (t ∷ ts) w e = go t.0 e (never-outside ts w.1)
  where
    go : (b : Bool) → cond b t.1 (first_answer ts) ≡ Ok Outside → (first_answer ts ≡ Ok Outside → ⊥) → ⊥
    go true q ih = true≢false (sym w.0 ∙ ap is_refused q)
    go false q ih = ih q

stop-outside : (l : Load) (id : List ℕ) (name parent : Option (List ℕ)) (i : StopInput) → stop_answer l id name parent i ≡ Ok Outside → ⊥
unfolding stop_tests
stop-outside l id name parent i e = never-outside _ (refl, (refl, (refl, (refl, (refl, (refl, (refl, tt))))))) e

rule-outside : (l : Load) (i : Rule) → rule_answer l i ≡ Ok Outside → ⊥
unfolding rule_tests
rule-outside l i e = never-outside _ (refl, (refl, (refl, (refl, (refl, tt))))) e

service-outside : (l : Load) (name : List ℕ) (start to : ℕ) → service_answer l.week l.searched name start to ≡ Ok Outside → ⊥
unfolding service_tests
service-outside l name start to e = never-outside _ (refl, (refl, (refl, (refl, (refl, tt))))) e

exception-outside : (l : Load) (name : List ℕ) (date kind : ℕ) → exception_answer l.week l.searched name date kind ≡ Ok Outside → ⊥
unfolding exception_tests
exception-outside l name date kind e = never-outside _ (refl, (refl, (refl, tt))) e

-- ---- what holds of a load between two steps

pub record Stands (s : Settings) (l : Load) (fs : List FillStep) : Type 0 where
  pub kept : Kept l
  pub runs : CallsRun l fs
  -- not searched, it holds what was taken; searched, its unsearched load does, with the calls in order
  pub new : l.searched ≡ false → Start s l fs
  pub done : l.searched ≡ true → Start s (unsearched_of l) (apart fs)

-- what one more step gives: it is answered for the first of its causes, and leaves what is taken
pub record Stepping (s : Settings) (l : Load) (fs : List FillStep) (x : Step) : Type 0 where
  pub first : First (stepped l x).answer (causes_of s (state_at l fs) x)
  pub after : After s (state_at l fs) x (stepped l x).answer (state_at (next l x) (taken_after l x fs))
  pub new : (next l x).searched ≡ false → Start s (next l x) (taken_after l x fs)
  pub done : (next l x).searched ≡ true → Start s (unsearched_of (next l x)) (apart (taken_after l x fs))

by-matches : (s : Settings) (l : Load) (fs : List FillStep) (x : Step) → Matches (causes l x) (causes_of s (state_at l fs) x)
    → First (stepped l x).answer (causes_of s (state_at l fs) x)
by-matches s l fs x m = subst (λ (a : Answer). First a (causes_of s (state_at l fs) x))
    (sym (first-is-answer _ _ (step-answered l x).first)) (first_matches (causes l x) (causes_of s (state_at l fs) x) m)

-- ---- a load that is not searched

module _ (s : Settings) (o : Opened s) (l : Load) (fs : List FillStep) (w : Start s l fs) where
  abbrev t : State
  t = state_at l fs

  matches : (x : Step) → Matches (causes l x) (causes_of s t x)
  matches (filling (stop id name parent i)) = stop-match s l fs w id name parent i
  matches (filling (call name i)) = call-match s l fs w o i name
  matches (filling (rule i)) = rule-match s l fs w i
  matches (filling (service name weekdays start to)) = service-match s l fs w name start to
  matches (filling (exception name date kind)) = exception-match s l fs w name date kind
  matches (withdraw k) = withdraw-match s o l fs w k
  matches search = search-match s l fs w o
  matches (limited n) = limited-match s l fs w o n

  -- nothing more is taken
  same : (x : Step) (a : Answer) (m : Load) → After s t x a (state_at m fs) → After s t x a (state_at m (fs ++ []))
  same x a m v = subst (λ (gs : List FillStep). After s t x a (state_at m gs)) (sym (append-nil fs)) v

  -- an unsearched load has no limit
  unlimited : l.limit ≡ None
  unlimited = no_limit l w.sound w.fresh

  call-after : (name : List ℕ) (i : CallInput) (r : StepResult) → Comes s l fs name i r
      → After s t (filling (call name i)) r.answer (state_at r.load (fs ++ cond (is_taken r.answer) (call name i ∷ []) []))
  call-after name i _ (came {a = a} {n = n} c) = go a c
    where
      -- an answered call closes the services
      at : (a : Answer) (gs : List FillStep) → Came s l fs name i a n
          → state_at n gs ≡ record {
            taken = gs;
            horizon = n.table_horizon;
            limits = n.table_limits;
            searched = l.searched;
            stopped = l.limit;
            dates = l.week.dates;
            closed = true;
          }
      at a gs v = λ k. record {
        taken = gs;
        horizon = n.table_horizon;
        limits = n.table_limits;
        searched = v.searched k;
        stopped = v.limit k;
        dates = v.dates k;
        closed = v.closed k;
      }

      go : (a : Answer) → Came s l fs name i a n → After s (state_at l fs) (filling (call name i)) a
          (state_at n (fs ++ cond (is_taken a) (call name i ∷ []) []))
      go (Ok Taken) v = subst (After s (state_at l fs) (filling (call name i)) (Ok Taken))
          (sym (at (Ok Taken) (fs ++ call name i ∷ []) v)) (a_call v.fits (in_full unlimited))
      go (Ok Outside) v = same (filling (call name i)) (Ok Outside) n
          (subst (After s (state_at l fs) (filling (call name i)) (Ok Outside)) (sym (at (Ok Outside) fs v))
          (outside (awake-so l.week fs w.held.week (state_at l fs) refl refl name i v.runs v.day) v.fits (in_full unlimited)))
      go (Err r) v = absurd (true≢false v.answered)
  call-after name i _ (rested v h) = same (filling (call name i)) (Ok Outside) (closed_load l)
      (resting (rests-so l.week fs w.held.week (state_at l fs) refl refl name i v h))
  call-after name i _ (back {r = r}) = same (filling (call name i)) (Err r) l sent_back

  fill-after : (x : FillStep) → After s t (filling x) (filled l x).answer (state_at (filled l x).load (fs ++ given l x))
  unfolding stop_spec rule_spec service_spec service_on exception_spec exception_on
  fill-after (stop id name parent i) = go (stop_answer l id name parent i) refl
    where
      go : (a : Answer) → stop_answer l id name parent i ≡ a → After s (state_at l fs) (filling (stop id name parent i)) a
          (state_at (cond (is_taken a) (with_stops l (set l.stops l.stop_count (stop_of id name (station_in l parent) i))
          (l.stop_count + 1)) l) (fs ++ cond (is_taken a) (stop id name parent i ∷ []) []))
      go (Ok Taken) e = a_stop
      go (Ok Outside) e = absurd (stop-outside l id name parent i e)
      go (Err r) e = same (filling (stop id name parent i)) (Err r) l sent_back
  fill-after (rule i) = go (rule_answer l i) refl
    where
      go : (a : Answer) → rule_answer l i ≡ a → After s (state_at l fs) (filling (rule i)) a
          (state_at (cond (is_taken a) (with_rules l (set l.rules l.rule_count i) (l.rule_count + 1)) l)
          (fs ++ cond (is_taken a) (rule i ∷ []) []))
      go (Ok Taken) e = a_rule
      go (Ok Outside) e = absurd (rule-outside l i e)
      go (Err r) e = same (filling (rule i)) (Err r) l sent_back
  fill-after (call name i) = call-after name i (call_spec l name i) (comes s o l fs w name i)
  fill-after (service name weekdays start to) = go (service_answer l.week l.searched name start to) refl
    where
      go : (a : Answer) → service_answer l.week l.searched name start to ≡ a
          → After s (state_at l fs) (filling (service name weekdays start to)) a
          (state_at (with_week l (cond (is_taken a) (with_services l.week
          (set l.week.services l.week.service_count (service_of name weekdays start to)) (l.week.service_count + 1)) l.week))
          (fs ++ cond (is_taken a) (service name weekdays start to ∷ []) []))
      go (Ok Taken) e = a_service
      go (Ok Outside) e = absurd (service-outside l name start to e)
      go (Err r) e = same (filling (service name weekdays start to)) (Err r) l sent_back
  fill-after (exception name date kind) = go (exception_answer l.week l.searched name date kind) refl
    where
      go : (a : Answer) → exception_answer l.week l.searched name date kind ≡ a
          → After s (state_at l fs) (filling (exception name date kind)) a
          (state_at (with_week l (cond (is_taken a) (with_services l.week
          (set l.week.services (place_in l.week name) (excepted_of (service_in l.week name) (days_on (dates_in l.week) date) kind))
          l.week.service_count) l.week)) (fs ++ cond (is_taken a) (exception name date kind ∷ []) []))
      go (Ok Taken) e = an_exception
      go (Ok Outside) e = absurd (exception-outside l name date kind e)
      go (Err r) e = same (filling (exception name date kind)) (Err r) l sent_back

  -- a call is what it is before a search
  call_same : (name : List ℕ) (i : CallInput) → add_spec_of l name i ≡ call_spec l name i
  unfolding add_spec_of
  call_same name i = cond-not _ _ w.fresh

  withdraw-same : (k : CallKey) → withdraw_spec l k ≡ taken_out l k
  unfolding withdraw_spec
  withdraw-same k = cond-not _ _ w.fresh

  -- a step that fills leaves it unsearched
  filled-steps : (x : FillStep) → stepped l (filling x) ≡ filled l x → Stepping s l fs (filling x)
  filled-steps x e = record {
    first = by-matches s l fs (filling x) (matches (filling x));
    after = subst (λ (r : StepResult). After s t (filling x) r.answer (state_at r.load (fs ++ cond (is_taken r.answer) (x ∷ []) [])))
        (sym e)
        (fill-after x);
    new = λ d. subst (λ (r : StepResult). Start s r.load (fs ++ cond (is_taken r.answer) (x ∷ []) [])) (sym e) (fill_start s l x fs w);
    done = λ d. absurd (true≢false (sym d ∙ ap (λ (r : StepResult). r.load.searched) e ∙ filled-searched l x ∙ w.fresh));
  }

  abbrev OutBy : CallKey → StepResult → Type 0
  OutBy k r =
      After s t (withdraw k) r.answer (state_at r.load
      (cond (is_taken r.answer) (without_last (named_filling l.settings l.table_horizon k) fs) fs))
      × Start s r.load (cond (is_taken r.answer) (without_last (named_filling l.settings l.table_horizon k) fs) fs)

  new-step : (x : Step) → Stepping s l fs x
  new-step (filling (stop id name parent i)) = filled-steps (stop id name parent i) refl
  new-step (filling (call name i)) = filled-steps (call name i) (call_same name i)
  new-step (filling (rule i)) = filled-steps (rule i) refl
  new-step (filling (service name weekdays start to)) = filled-steps (service name weekdays start to) refl
  new-step (filling (exception name date kind)) = filled-steps (exception name date kind) refl
  new-step (withdraw k) =
      let v : OutBy k (withdraw_spec l k) = subst (OutBy k) (sym (withdraw-same k)) (withdrawn-so s o l fs w k) in
      record {
        first = by-matches s l fs (withdraw k) (matches (withdraw k));
        after = v.0;
        new = λ d. v.1;
        done = λ d. absurd (true≢false (sym d ∙ v.1.fresh));
      }
  new-step search = let v = search-so s o l fs w in
      record { first = by-matches s l fs search (matches search); after = v.after; new = v.new; done = v.done }
  new-step (limited n) = let v = limited-so s o l fs w n in
      record { first = by-matches s l fs (limited n) (matches (limited n)); after = v.after; new = v.new; done = v.done }

-- ---- a load that is searched: a call and a withdrawal have it searched again, and every other step is sent back with 15

answered-15 : (l : Load) (x : FillStep) → l.searched ≡ true → ((name : List ℕ) (i : CallInput) → x ≡ call name i → ⊥)
    → (stepped l (filling x)).answer ≡ Err AlreadySearched
unfolding stop_tests rule_tests service_tests exception_tests
answered-15 l (stop id name parent i) e f = first_holds (step-answered l (filling (stop id name parent i))).first e
answered-15 l (call name i) e f = absurd (f name i refl)
answered-15 l (rule i) e f = first_holds (step-answered l (filling (rule i))).first e
answered-15 l (service name weekdays start to) e f =
    first_holds (step-answered l (filling (service name weekdays start to))).first (or-true-left l.searched l.week.closed e)
answered-15 l (exception name date kind) e f = first_holds (step-answered l (filling (exception name date kind))).first
    (or-true-left l.searched l.week.closed e)

module _ (s : Settings) (o : Opened s) (l : Load) (fs : List FillStep) (v : Stands s l fs) (e : l.searched ≡ true) where
  w : Start s (unsearched_of l) (apart fs)
  w = v.done e

  -- a stopped load has at most one change
  few : stopped l ≡ true → s.max_transfers ≤ 1
  few = few-changes s l fs w v.kept.sound

  days : (j : CallInput) → Memᴰ j (calls_in fs) → j.day ≤ 2
  days j m = w.held.days j (perm-mem raw_earlier (Permᴰ.symm (apart-like fs).calls) m)

  -- by what it leaves
  left_step : (x : Step) → First (stepped l x).answer (causes_of s (state_at l fs) x)
      → Leaves s l fs x (stepped l x).answer (next l x) (taken_after l x fs) → Stepping s l fs x
  left_step x f q = record { first = f; after = q.after; new = λ d. absurd (true≢false (sym q.searched ∙ d)); done = λ d. q.start }

  -- sent back with 15
  back_step : (x : FillStep) → First (Err AlreadySearched) (causes_of s (state_at l fs) (filling x)) → stepped l (filling x) ≡ filled l x
      → (stepped l (filling x)).answer ≡ Err AlreadySearched → Stepping s l fs (filling x)
  back_step x f q a =
      left_step (filling x) (subst (λ (y : Answer). First y (causes_of s (state_at l fs) (filling x))) (sym a) f)
      (subst (λ (m : Load). Leaves s l fs (filling x) (stepped l (filling x)).answer m
      (fs ++ cond (is_taken (stepped l (filling x)).answer) (x ∷ []) [])) (sym (ap (λ (r : StepResult). r.load) q ∙ filled-stays l x e))
      (subst (λ (y : Answer). Leaves s l fs (filling x) y l (fs ++ cond (is_taken y) (x ∷ []) [])) (sym a)
      (same-leaves s l fs (filling x) (Err AlreadySearched) l (stays-so s l fs (filling x) AlreadySearched e w))))

  done-step : (x : Step) → Stepping s l fs x
  done-step (filling (stop id name parent i)) = back_step (stop id name parent i) (inl (e, refl)) refl
      (answered-15 l (stop id name parent i) e (λ n j q. cc))
  done-step (filling (call name i)) =
      left_step (filling (call name i)) (by-matches s l fs (filling (call name i)) (added-match s o l fs e w few name i))
      (added-leaves s o l fs e v.kept w days few name i)
  done-step (filling (rule i)) = back_step (rule i) (inl (e, refl)) refl (answered-15 l (rule i) e (λ n j q. cc))
  done-step (filling (service name weekdays start to)) =
      back_step (service name weekdays start to) (inl (inl e, refl)) refl (answered-15 l (service name weekdays start to) e (λ n j q. cc))
  done-step (filling (exception name date kind)) =
      back_step (exception name date kind) (inl (inl e, refl)) refl (answered-15 l (exception name date kind) e (λ n j q. cc))
  done-step (withdraw k) = left_step (withdraw k) (by-matches s l fs (withdraw k) (withdrawn-match s o l fs e v.kept w days few k))
      (withdrawn-leaves-so s o l fs e v.kept w days few k)
  done-step search =
      let a : (search_spec l).answer ≡ Err AlreadySearched = first_holds (step-answered l search).first e in
      left_step search (inl (e, a))
      (subst (λ (m : Load). Leaves s l fs search (search_spec l).answer m fs) (sym (search-stays l e))
      (subst (λ (y : Answer). Leaves s l fs search y l fs) (sym a) (stays-so s l fs search AlreadySearched e w)))
  done-step (limited n) =
      let a : (within_spec l n).answer ≡ Err AlreadySearched = first_holds (step-answered l (limited n)).first e in
      left_step (limited n) (inl (e, a))
      (subst (λ (m : Load). Leaves s l fs (limited n) (within_spec l n).answer m fs)
      (sym (ap (λ (r : Answered). r.load) (within-again l n e)))
      (subst (λ (y : Answer). Leaves s l fs (limited n) y l fs) (sym a) (stays-so s l fs (limited n) AlreadySearched e w)))

-- ---- the whole list

any_step : (s : Settings) → Opened s → (l : Load) (fs : List FillStep) → Stands s l fs → (x : Step) → Stepping s l fs x
any_step s o l fs v x = go l.searched refl
  where
    go : (b : Bool) → l.searched ≡ b → Stepping s l fs x
    go false e = new-step s o l fs (v.new e) x
    go true e = done-step s o l fs v e x

pub record Walked (s : Settings) (l : Load) (xs : List Step) (fs : List FillStep) : Type 0 where
  pub taken : List FillStep
  pub runs : Runs s (state_at l fs) xs (answers_from l xs) (state_at (handed l xs) taken)
  pub stands : Stands s (handed l xs) taken

pub walk : (s : Settings) → Opened s → (xs : List Step) (l : Load) (fs : List FillStep) → Stands s l fs → Walked s l xs fs
walk s o [] l fs w = record { taken = fs; runs = end; stands = w }
walk s o (x ∷ xs) l fs w =
    let q = any_step s o l fs w x in
    let v = walk s o xs (next l x) (taken_after l x fs)
    (record { kept = step_kept l x w.kept; runs = step-runs l x fs w.runs; new = q.new; done = q.done }) in
    record { taken = v.taken; runs = step q.first q.after v.runs; stands = v.stands }

-- from the opening
pub walked : (o : Opening) → Opens o → (xs : List Step) → Walked o.settings (opened o) xs []
walked o w xs = walk o.settings (opens o w) xs (opened o) [] (record {
  kept = end_kept o [];
  runs = λ d name i m. absurd (Memᴰ.not-nil m);
  new = λ e. opened-start o w;
  done = λ e. absurd (true≢false (sym e ∙ opened_new o));
})

pub opened-state : (o : Opening) → state_at (opened o) [] ≡ fresh o.dates
unfolding empty_of undated_week dated_week
opened-state o = go o.dates
  where
    go : (d : Option (List ℕ)) → state_at (opened (record { settings = o.settings; dates = d })) [] ≡ fresh d
    go None = refl
    go (Some dates) = refl
