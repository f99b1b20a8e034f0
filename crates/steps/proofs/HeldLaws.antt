-- The load as a machine: its steps meet what demands 2 and 3 ask of a machine.
use Rattle.std.specs.Prelude.{None, Option, Some, is_some, unwrap_or}
use Prim.Native.Nat.{ℕ}
use mathlib.Core.Path.{◌≡◌, refl, sym, ap, subst, ◌∙◌}
use mathlib.Core.Bool.{Bool, true, false, not, cond, ◌&&◌, true≢false, false≢true}
use Rattle.laws.proofs.Options.{some-injective, none-ne-some, some-ne-none}
use mathlib.Core.List.{List}
use Rattle.laws.proofs.Bools.{cond-not}
use Rattle.refusal.specs.First.{is_refused, is_taken}
use Rattle.calls.specs.declared.CallInput.{CallInput}
use Rattle.profile.specs.declared.Journey.{Journey}
use Rattle.week.specs.declared.Week.{Week}
use Rattle.week.specs.Sound.{WeekSound}
use Rattle.offers.specs.Order.{in_order_of}
use Rattle.offers.specs.Offers.{with_calls}
use Rattle.offers.specs.Search.{found}
use Rattle.offers.specs.Machine.{Ran, Stays, Steps}
use Rattle.offers.proofs.OrderLaws.{sorted_front}
use Rattle.offers.proofs.MachineLaws.{meets-2, meets-3, meets-within, kept-stands as machine-stands}
use Rattle.load.specs.declared.Load.{Load}
use Rattle.load.specs.declared.StepResult.{StepResult}
use Rattle.load.specs.Load.{empty_of, with_week, stopped}
use Rattle.load.specs.Steps.{Opening, opened, call_spec}
use Rattle.load.specs.FillStep.{FillStep, stop, call, rule, service, exception, filled}
use Rattle.load.specs.Sound.{Sound}
use Rattle.load.proofs.SoundLaws.{open-sound, fill-keeps-sound, with-week-sound}
use Rattle.calls.specs.declared.CallKey.{CallKey}
use Rattle.search.specs.Timetable.{timetable_of}
use Rattle.search.specs.Search.{outcome_of, with_found, search_spec}
use Rattle.search.specs.Within.{Answered, finishes_in, within_spec, step_of}
use Rattle.search.proofs.RunLaws.{sound-timed, taken-found, untaken-stays}
use Rattle.search.proofs.SearchSound.{search-sound}
use Rattle.search.proofs.WithinLaws.{taken-within, untaken-within, within-sound, finished-is-search}
use Rattle.best.specs.Best.{kept_of}
use Rattle.again.specs.Again.{unsearched_of, researched, again, leaves_table_of, added_to, add_spec_of, taken_out, withdraw_spec}
use Rattle.again.specs.Claims.{Own}
use Rattle.again.proofs.OwnLaws.{found-own, within-own}
use Rattle.again.proofs.ResearchLaws.{research-cases}
use Rattle.again.proofs.WeekLaws.{own-week}
use Rattle.again.proofs.SoundLaws.{unsearched-sound, taken-out-sound, taken-out-searched}
use Rattle.steps.specs.Steps.{Step, filling, withdraw, search, limited, stepped}
use Rattle.steps.specs.Lists.{next, ran_again, ran_added, ran, end_of}
use Rattle.steps.specs.Held.{SearchedHolds, BestAgrees}
use Rattle.steps.specs.Within.{KeptStands, AgreesWithin}
use Rattle.steps.specs.Machine.{machine}
use Rattle.steps.proofs.StepLaws.{filled-stays, filled-searched, found-kept, sound-in-time, sound-near, sound-near-new, best-asks}
use Rattle.steps.proofs.StepLaws.{best_none}

-- ---- what a searched load reads: what its search read, in order

abbrev pub From : Load → Load → Type 0
From p l = l.searched ≡ true → timetable_of l ≡ with_calls (timetable_of p) (in_order_of (timetable_of p).calls)

found-reads : (m : Load) (ks : List Journey) (h k : ℕ) (limit : Option ℕ)
    → timetable_of (with_found m ks h k limit) ≡ with_calls (timetable_of m) (in_order_of (timetable_of m).calls)
unfolding timetable_of
found-reads m ks h k limit = ap (with_calls (timetable_of m)) (sorted_front m.call_count m.calls)

-- what is asked of a step that makes n of l, its accepted search, if any, having started from o
pub record Right (l n : Load) (o : Option Load) : Type 0 where
  pub sound : Sound n
  pub searches : (m : Load) → o ≡ Some m → Ran machine Sound m n
  pub stays : o ≡ None → n.searched ≡ true → Stays machine l n
  pub own : Own l → Own n
  pub from : (p : Load) → From p l → From (unwrap_or o p) n

-- no search, and the load as it was where it is searched
kept : (l n : Load) → Sound n → (n.searched ≡ true → n ≡ l) → Right l n None
kept l n s e = record {
  sound = s;
  searches = λ m q. absurd (none-ne-some m q);
  stays = λ q d. let same = e d in record {
    searched = sym (ap (λ (m : Load). m.searched) same) ∙ d;
    whole = λ f. sym (ap (λ (m : Load). m.searched && not (stopped m)) same) ∙ f;
    list = ap kept_of same;
    to = ap (λ (m : Load). m.horizon) same;
    mark = ap (λ (m : Load). m.limits) same;
  };
  own = λ w d. subst Own (sym (e d)) w d;
  from = λ p w d. subst (From p) (sym (e d)) w d;
}

-- no search, and a searched load whose services an outside call closed
week-right : (l : Load) (w : Week) → Sound l → WeekSound w → l.searched ≡ true → Right l (with_week l w) None
unfolding timetable_of
week-right l w s v d = record {
  sound = with-week-sound l w s v;
  searches = λ m q. absurd (none-ne-some m q);
  stays = λ q e. record { searched = d; whole = λ f. f; list = refl; to = refl; mark = refl };
  own = own-week l w;
  from = λ p f e. f e;
}

-- an accepted search of m left it with what it found; where it was not stopped, the full search finds that
pub record Leaves (m : Load) (r : StepResult) : Type 0 where
  pub new : m.searched ≡ false
  pub kept : List Journey
  pub to : ℕ
  pub mark : ℕ
  pub limit : Option ℕ
  pub is : r.load ≡ with_found m kept to mark limit
  pub finds : limit ≡ None → outcome_of m ≡ found kept to mark
  pub sound : Sound r.load
  pub own : Own r.load

ran-found : (m : Load) (ks : List Journey) (h k : ℕ) (limit : Option ℕ) → Sound m → m.searched ≡ false
    → (limit ≡ None → outcome_of m ≡ found ks h k)
    → Ran machine Sound m (with_found m ks h k limit)
unfolding outcome_of
ran-found m ks h k limit s new f = record {
  sound = s;
  new = new;
  searched = refl;
  finds = λ e. f (none limit e) ∙ (λ i. found (sym (found-kept m ks h k limit) i) h k);
}
  where
    none : (o : Option ℕ) → not (is_some o) ≡ true → o ≡ None
    none (Some n) e = absurd (false≢true e)
    none None e = refl

ended : (l m : Load) (r : StepResult) → Sound m → Leaves m r → Right l r.load (Some m)
ended l m r s w =
    let q : Ran machine Sound m r.load = subst (Ran machine Sound m) (sym w.is) (ran-found m w.kept w.to w.mark w.limit s w.new w.finds) in
    record {
      sound = w.sound;
      searches = λ p e. subst (λ (x : Load). Ran machine Sound x r.load) (some-injective m p e) q;
      stays = λ e d. absurd (some-ne-none m e);
      own = λ x. w.own;
      from = λ p x d. ap timetable_of w.is ∙ found-reads m w.kept w.to w.mark w.limit;
    }

full-leaves : (m : Load) → Sound m → is_taken (search_spec m).answer ≡ true → Leaves m (search_spec m)
full-leaves m s t =
    let w = taken-found m t in
    record {
      new = w.new;
      kept = w.kept;
      to = w.to;
      mark = w.mark;
      limit = None;
      is = ap (λ (r : StepResult). r.load) w.is;
      finds = λ e. w.outcome;
      sound = search-sound m s;
      own = found-own m s t;
    }

limited-leaves : (m : Load) (n : ℕ) → Sound m → is_taken (within_spec m n).answer ≡ true → Leaves m (step_of (within_spec m n))
limited-leaves m n s t = go (finishes_in m n) refl
  where
    go : (c : Bool) → finishes_in m n ≡ c → Leaves m (step_of (within_spec m n))
    go true e =
        let q = finished-is-search m n (taken-within m n t).one e in
        subst (Leaves m) (sym q) (full-leaves m s (ap (λ (r : StepResult). is_taken r.answer) (sym q) ∙ t))
    go false e =
        let w = taken-within m n t in
        record {
          new = w.new;
          kept = w.kept;
          to = w.to;
          mark = w.mark;
          limit = Some n;
          is = ap (λ (r : Answered). r.load) w.is ∙ cond-not _ _ e;
          finds = λ x. absurd (some-ne-none n x);
          sound = within-sound m n s;
          own = within-own m n s t;
        }

again-leaves : (limit : Option ℕ) (m : Load) → Sound m → is_taken (researched limit m).answer ≡ true → Leaves m (researched limit m)
again-leaves limit m s = research-cases limit m (λ r. is_taken r.answer ≡ true → Leaves m r) (λ n w. limited-leaves m n s) (full-leaves m s)

-- a step on the unsearched load, and a search
again-right : (l : Load) (r : StepResult) → Sound l → Sound r.load → Right l (again l r).load (ran_again l r)
unfolding again
again-right l r s t = go (is_refused r.answer) (is_taken (researched l.limit r.load).answer) refl
  where
    go : (b c : Bool) → is_taken (researched l.limit r.load).answer ≡ c
        → Right l (cond {A = StepResult} b (record { answer = r.answer; load = l })
        (cond {A = StepResult} c (record { answer = r.answer; load = (researched l.limit r.load).load })
        (record { answer = (researched l.limit r.load).answer; load = l }))).load
        (cond b None (cond c (Some r.load) None))
    go true c e = kept l l s (λ d. refl)
    go false true e = ended l r.load (researched l.limit r.load) t (again-leaves l.limit r.load t e)
    go false false e = kept l l s (λ d. refl)

added-right : (l : Load) (r : StepResult) → Sound l → l.searched ≡ true → Sound r.load → Right l (added_to l r).load (ran_added l r)
unfolding added_to
added-right l r s d t = go (leaves_table_of l r)
  where
    go : (b : Bool) → Right l (cond {A = StepResult} b (record { answer = r.answer; load = with_week l r.load.week }) (again l r)).load
        (cond b None (ran_again l r))
    go true = week-right l r.load.week s t.week d
    go false = again-right l r s t

-- a step that leaves an unsearched load unsearched
unsearched-right : (l n : Load) → Sound n → l.searched ≡ false → n.searched ≡ l.searched → Right l n None
unsearched-right l n s u e = kept l n s (λ d. absurd (true≢false (sym d ∙ e ∙ u)))

call-right : (l : Load) (name : List ℕ) (i : CallInput) → Sound l
    → Right l (add_spec_of l name i).load (cond l.searched (ran_added l (call_spec (unsearched_of l) name i)) None)
unfolding add_spec_of
call-right l name i s = go l.searched refl
  where
    go : (b : Bool) → l.searched ≡ b → Right l (cond b (added_to l (call_spec (unsearched_of l) name i)) (call_spec l name i)).load
        (cond b (ran_added l (call_spec (unsearched_of l) name i)) None)
    go true e = added-right l (call_spec (unsearched_of l) name i) s e
        (fill-keeps-sound (unsearched_of l) (call name i) (unsearched-sound l s))
    go false e = unsearched-right l (call_spec l name i).load (fill-keeps-sound l (call name i) s) e (filled-searched l (call name i))

withdraw-right : (l : Load) (k : CallKey) → Sound l
    → Right l (withdraw_spec l k).load (cond l.searched (ran_again l (taken_out (unsearched_of l) k)) None)
unfolding withdraw_spec
withdraw-right l k s = go l.searched refl
  where
    go : (b : Bool) → l.searched ≡ b → Right l (cond b (again l (taken_out (unsearched_of l) k)) (taken_out l k)).load
        (cond b (ran_again l (taken_out (unsearched_of l) k)) None)
    go true e = again-right l (taken_out (unsearched_of l) k) s (taken-out-sound (unsearched_of l) k (unsearched-sound l s))
    go false e = unsearched-right l (taken_out l k).load (taken-out-sound l k s) e (taken-out-searched l k)

search-right : (l : Load) → Sound l → Right l (search_spec l).load (cond (is_taken (search_spec l).answer) (Some l) None)
search-right l s = go (is_taken (search_spec l).answer) refl
  where
    go : (b : Bool) → is_taken (search_spec l).answer ≡ b → Right l (search_spec l).load (cond b (Some l) None)
    go true e = ended l l (search_spec l) s (full-leaves l s e)
    go false e = kept l (search_spec l).load (search-sound l s) (λ d. untaken-stays l e)

limited-right : (l : Load) (n : ℕ) → Sound l → Right l (within_spec l n).load (cond (is_taken (within_spec l n).answer) (Some l) None)
limited-right l n s = go (is_taken (within_spec l n).answer) refl
  where
    go : (b : Bool) → is_taken (within_spec l n).answer ≡ b → Right l (within_spec l n).load (cond b (Some l) None)
    go true e = ended l l (step_of (within_spec l n)) s (limited-leaves l n s e)
    go false e = kept l (within_spec l n).load (within-sound l n s) (λ d. untaken-within l n e)

filled-right : (l : Load) (x : FillStep) → Sound l → Right l (filled l x).load None
filled-right l x s = kept l (filled l x).load (fill-keeps-sound l x s) (λ d. filled-stays l x (sym (filled-searched l x) ∙ d))

pub right : (l : Load) (x : Step) → Sound l → Right l (next l x) (ran l x)
right l (filling (stop id name parent i)) s = filled-right l (stop id name parent i) s
right l (filling (call name i)) s = call-right l name i s
right l (filling (rule i)) s = filled-right l (rule i) s
right l (filling (service name weekdays start end)) s = filled-right l (service name weekdays start end) s
right l (filling (exception name date kind)) s = filled-right l (exception name date kind) s
right l (withdraw k) s = withdraw-right l k s
right l search s = search-right l s
right l (limited n) s = limited-right l n s

pub step_sound : (l : Load) (x : Step) → Sound l → Sound (stepped l x).load
step_sound l x s = (right l x s).sound

pub opened_new : (o : Opening) → (opened o).searched ≡ false
unfolding empty_of
opened_new o = refl

pub steps : Steps machine
steps = record {
  Sound = Sound;
  opened_sound = λ s o. open-sound s;
  step_sound = λ l x s. (right l x s).sound;
  opened_new = λ s o. opened_new s;
  timed = sound-timed;
  in_time = λ l s. sound-in-time l;
  near = sound-near;
  searches = λ l x m s e. (right l x s).searches m e;
  stays = λ l x s e d. (right l x s).stays e d;
  asks = best-asks;
  asks_none = λ l s e z. best_none l e z;
  near_new = sound-near-new;
}

-- ---- what a searched load that was not stopped holds, and when best agrees

whole : (l : Load) → stopped l ≡ false → l.searched ≡ true → (l.searched && not (stopped l)) ≡ true
whole l e d = (λ i. d i && not (e i))

pub searched-holds : SearchedHolds
searched-holds s xs o d e =
    let w = meets-2 machine steps s xs o d (whole (end_of s xs) e d) in
    record { unbeaten = w.unbeaten; admitted = w.admitted; complete = w.complete; fell = w.fell }

pub best-agrees : BestAgrees
best-agrees s s' xs xs' n o o' e e' = meets-3 machine steps s s' xs xs' n o o' (whole (end_of s xs) e) (whole (end_of s' xs') e')

pub kept-stands : KeptStands
kept-stands s xs o d e = machine-stands machine steps s xs o d (whole (end_of s xs) e d)

pub agrees-within : AgreesWithin
agrees-within s s' xs xs' w w' o o' d d' e e' l l' =
    meets-within machine steps s s' xs xs' w w' o o' d (whole (end_of s xs) e d) d' (whole (end_of s' xs') e' d') l l'
