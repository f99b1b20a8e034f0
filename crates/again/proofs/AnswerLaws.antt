-- A call and a withdrawal are answered by the first of their tests that holds, and a refused load comes back unchanged: of any load.
use Rattle.refusal.specs.declared.Accepted.TheVariants.{Taken, Outside}
use Rattle.std.specs.Prelude.{Option, Err, Ok, None, Some}
use Prim.Native.Nat.{ℕ, ◌≤◌}
use mathlib.Core.Path.{◌≡◌, refl, sym, ap, subst, ◌∙◌}
use mathlib.Core.Bool.{Bool, true, false, cond, not, ◌&&◌, true≢false, false≢true}
use mathlib.Core.List.{List, [], ◌∷◌, ◌++◌}
use native.Mathlib.Omega.{arith}
use borrow.Author.Tests.{eq-eqb, eqb-true, eqb-false, lt-ltb, le-ltb}
use lib.Dec.{eqb, ltb}
use Rattle.laws.specs.Lists.{anyb}
use Rattle.laws.proofs.Bools.{cond-by, cond-not}
use Rattle.refusal.specs.declared.Refusal.TheVariants.{FieldRange, NoRoom, CallUnknown, Neighbours}
use Rattle.refusal.specs.First.{First, none, hit, miss, AllFail, first_answer, is_refused, is_taken, Answer}
use Rattle.refusal.proofs.FirstLaws.{answer-is-first, first_taken, first-append, first_past, taken_is}
use Rattle.calls.specs.declared.Call.{Call}
use Rattle.calls.specs.declared.CallInput.{CallInput}
use Rattle.calls.specs.declared.Table.{Table}
use Rattle.calls.specs.Tried.{Tried}
use Rattle.calls.specs.Windows.{outside, seen_call}
use Rattle.calls.specs.Tables.{put}
use Rattle.calls.specs.Calls.{known, field_tests, time_tests, call_tests, call_time, call_fit, call_on, ended, goes_on_of}
use Rattle.calls.specs.Reached.{reached}
use Rattle.calls.specs.Shown.{table_calls}
use Rattle.calls.proofs.SoundLaws.{call-tests-fail}
use Rattle.calls.proofs.ReachedLaws.{fitted-reached}
use Rattle.load.specs.declared.Load.{Load}
use Rattle.load.specs.declared.StepResult.{StepResult}
use Rattle.load.specs.Load.{table_of, with_table, with_week}
use Rattle.load.specs.Steps.{call_fitted, call_load, plain_call, is_unknown, is_resting, running_tests, gate_answer, closing, call_spec}
use Rattle.load.specs.FillStep.{call}
use Rattle.load.proofs.AnswerLaws.{step-answered, insert-two}
use Rattle.calls.proofs.FallLaws.{never-rises}
use Rattle.load.proofs.StepLaws.{Called, without, goes_on, stays_out, sent_back, called, gate-passed}
use Rattle.week.specs.declared.Week.{Week}
use Rattle.week.specs.declared.Running.{Running}
use Rattle.week.specs.declared.Running.TheVariants.{Runs}
use Rattle.week.specs.Weeks.{is_dated, closed_week, running}
use Rattle.week.proofs.StepLaws.{runs-undated}
use Rattle.offers.specs.Order.{clashes}
use Rattle.offers.specs.Offers.{sorted}
use Rattle.search.specs.Timetable.{timetable_of}
use Rattle.search.specs.Search.{would_fall}
use Rattle.search.specs.Within.{would_fall_within}
use Rattle.calls.specs.declared.CallKey.{CallKey}
use Rattle.withdrawal.specs.Removal.{has_key, key_known}
use Rattle.again.specs.Again.{unsearched_of, researched, again, searched_as, leaves_table_of, added_to, add_spec_of, withdraw_tests}
use Rattle.again.specs.Again.{withdraw_answer, taken_out, withdraw_spec}
use Rattle.again.specs.Causes.{no_room_of, search_tests, again_tests, later_tests, Answered, AddAnswered, WithdrawAnswered, falls_again}
use Rattle.again.proofs.WeekLaws.{research-week}
use Rattle.again.proofs.ResearchLaws.{research-first}
use Rattle.again.proofs.SoundLaws.{unsearched-new, taken-out-searched}

-- ---- the search again

past_one : {a c : Answer} {b : Bool} {ts : List (Bool × Answer)} → First a ((b, c) ∷ ts) → b ≡ false → First a ts
past_one (hit e) q = absurd (true≢false (sym e ∙ q))
past_one (miss e f) q = f

-- the step's answer a, unless the search is refused
searched-first : (l m : Load) → m.searched ≡ false → (a : Answer) (more : List (Bool × Answer)) → First a more
    → First (searched_as l a (researched l.limit m)).answer (search_tests l m ++ more)
searched-first l m new a more f = go (is_taken (researched l.limit m).answer) refl
  where
    first : First (researched l.limit m).answer (search_tests l m)
    first = research-first l.limit m new

    go : (b : Bool) → is_taken (researched l.limit m).answer ≡ b
        → First (cond {A = StepResult} b (record { answer = a; load = (researched l.limit m).load })
        (record { answer = (researched l.limit m).answer; load = l })).answer (search_tests l m ++ more)
    go true e = first_past a (search_tests l m) more (first_taken _ (search_tests l m) refl first (taken_is _ e)) f
    go false e = first-append _ (search_tests l m) more first (λ q. false≢true (sym e ∙ ap is_taken q))

-- refused, the searched load stays
again-same : (l : Load) (r : StepResult) → is_refused (again l r).answer ≡ true → (again l r).load ≡ l
unfolding again
again-same l r q = go (is_refused r.answer) (is_taken (researched l.limit r.load).answer) refl q
  where
    go : (b c : Bool) → is_refused r.answer ≡ b
        → (let x = cond {A = StepResult} b (record { answer = r.answer; load = l })
        (cond {A = StepResult} c (record { answer = r.answer; load = (researched l.limit r.load).load })
        (record { answer = (researched l.limit r.load).answer; load = l })) in
        is_refused x.answer ≡ true → x.load ≡ l)
    go true c e q = refl
    go false true e q = absurd (true≢false (sym q ∙ e))
    go false false e q = refl

pub refused-not-taken : (a : Answer) → is_refused a ≡ true → is_taken a ≡ false
refused-not-taken (Ok Taken) e = absurd (false≢true e)
refused-not-taken (Ok Outside) e = refl
refused-not-taken (Err r) e = refl

-- ---- withdrawal

not_refused : (x y : Bool) → is_refused (cond x (Err FieldRange) (cond y (Err CallUnknown) (Ok Taken))) ≡ false
    → cond x (Err FieldRange) (cond y (Err CallUnknown) (Ok Taken)) ≡ Ok Taken
not_refused true y e = absurd (true≢false e)
not_refused false true e = absurd (true≢false e)
not_refused false false e = refl

pub tests-taken : (l : Load) (k : CallKey) → is_refused (withdraw_answer l k) ≡ false → withdraw_answer l k ≡ Ok Taken
unfolding first_answer
tests-taken l k e = not_refused (not (key_known k)) (not (anyb (has_key k) (table_calls (table_of l)))) e

pub out-answer : (l : Load) (k : CallKey) → (taken_out l k).answer ≡ withdraw_answer l k
unfolding taken_out
out-answer l k = refl

out-same : (l : Load) (k : CallKey) → is_refused (taken_out l k).answer ≡ true → (taken_out l k).load ≡ l
unfolding taken_out
out-same l k e = cond-not _ _ (refused-not-taken (withdraw_answer l k) e)

again-first : (l u : Load) (k : CallKey) → u.searched ≡ false
    → First (again l (taken_out u k)).answer (withdraw_tests u k ++ search_tests l (taken_out u k).load)
unfolding again
again-first l u k new = go (is_refused (taken_out u k).answer) refl
  where
    r : StepResult
    r = taken_out u k

    ts : List (Bool × Answer)
    ts = withdraw_tests u k

    first : First (taken_out u k).answer (withdraw_tests u k)
    first = subst (λ (a : Answer). First a (withdraw_tests u k)) (sym (out-answer u k)) (answer-is-first (withdraw_tests u k))

    go : (b : Bool) → is_refused r.answer ≡ b → First
        (cond {A = StepResult} b (record { answer = r.answer; load = l }) (searched_as l r.answer (researched l.limit r.load))).answer
        (ts ++ search_tests l r.load)
    go true e = first-append r.answer ts (search_tests l r.load) first (λ q. true≢false (sym e ∙ ap is_refused q))
    go false e =
        let t : r.answer ≡ (Ok Taken) = out-answer u k ∙ tests-taken u k (ap is_refused (sym (out-answer u k)) ∙ e) in
        let all : AllFail (withdraw_tests u k) = first_taken r.answer (withdraw_tests u k) refl first t in
        first_past (searched_as l r.answer (researched l.limit r.load)).answer ts (search_tests l r.load) all
        (searched-first l r.load (taken-out-searched u k ∙ new) r.answer [] (subst (λ (a : Answer). First a []) (sym t) none))

pub withdraw-answered : WithdrawAnswered
unfolding withdraw_spec
withdraw-answered l k = go l.searched
  where
    u : Load
    u = unsearched_of l

    go : (b : Bool) → Answered (cond b (again l (taken_out (unsearched_of l) k)) (taken_out l k)) l
        (cond b (withdraw_tests (unsearched_of l) k ++ search_tests l (taken_out (unsearched_of l) k).load) (withdraw_tests l k))
    go true =
        let f = again-first l (unsearched_of l) k (unsearched-new l) in
        record { first = f; taken = first_taken _ _ refl f; unchanged = again-same l (taken_out (unsearched_of l) k) }
    go false =
        let f = subst (λ (a : Answer). First a (withdraw_tests l k)) (sym (out-answer l k)) (answer-is-first (withdraw_tests l k)) in
        record { first = f; taken = first_taken _ _ refl f; unchanged = out-same l k }

-- ---- call, on a searched load

-- what the call step makes of its answer and table
abbrev made : Load → Tried → StepResult
made u f = record { answer = f.answer; load = call_load u f }

-- what it comes to on the table r that the cuts of t reach, by whether the call is outside there and r has no room
abbrev fits : Table → Table → Call → Bool → Bool → Tried
fits t r c o f =
    let a = cond o (Ok Outside) (cond f (Err NoRoom) (Ok Taken)) in
    ended t (record { answer = a; table = cond (is_taken a) (put r c) r })

-- a plain call's horizon
either-low : (m l : Load) (b : Bool) → m.table_horizon ≤ l.table_horizon → (cond b l m).table_horizon ≤ l.table_horizon
either-low m l true h = omega arith
either-low m l false h = h

plain-low : (l : Load) (i : CallInput) → (plain_call l i).load.table_horizon ≤ l.table_horizon
unfolding plain_call
plain-low l i =
    either-low (with_table l (call_fitted l i).table) l (is_refused (call_fitted l i).answer)
    (never-rises l.settings l.searched l.stop_count (table_of l) i)

module _ (l : Load) (i : CallInput) where
  abbrev u : Load
  u = unsearched_of l

  abbrev tests : List (Bool × Answer)
  tests = call_tests false l.stop_count i

  abbrev a : Option ℕ
  a = call_time l.settings i i.arrival

  abbrev d : Option ℕ
  d = call_time l.settings i i.departure

  abbrev r : Table
  r = reached (table_of l) a d

  abbrev c : Call
  c = seen_call r.horizon a d i

  -- the call step on the unsearched load: sent back by the tests, or by what the cuts reach
  sent : (x : Answer) → first_answer tests ≡ x → plain_call u i ≡ made u (goes_on_of l.settings (table_of l) i x)
  unfolding plain_call call_on unsearched_of
  sent x e = ap (λ (y : Answer). made u (goes_on_of l.settings (table_of l) i y)) e

  passed-by : first_answer tests ≡ Ok Taken → plain_call u i ≡ made u (fits (table_of l) r c (outside r.horizon a d) (no_room_of r))
  unfolding call_fit first_answer
  passed-by e = sent (Ok Taken) e ∙ ap (λ (f : Tried). made u (ended (table_of l) f)) (fitted-reached (table_of l) a d i)

  -- an unsearched load has its table's horizon and mark
  same-table : with_table u (table_of l) ≡ u
  unfolding unsearched_of
  same-table = refl

  same_horizon : eqb u.table_horizon l.table_horizon ≡ true
  unfolding unsearched_of
  same_horizon = eq-eqb l.table_horizon l.table_horizon refl

  new-with : (t : Table) → (with_table u t).searched ≡ false
  unfolding unsearched_of
  new-with t = refl

  -- sent back with x, or outside: the searched load stays
  stands : (x : Answer) → is_taken x ≡ false → added_to l (record { answer = x; load = u }) ≡ record { answer = x; load = l }
  unfolding added_to unsearched_of
  stands x e = rw (e, same_horizon) refl

  abbrev Goal : StepResult → Type 0
  Goal x = First (added_to l x).answer (tests ++ again_tests l a d r x.load)

  sent-first : (x : Answer) → first_answer tests ≡ x → is_taken x ≡ false → Goal (record { answer = x; load = u })
  sent-first x e n =
      subst (λ (y : Answer). First y (tests ++ again_tests l a d r u)) (sym (ap (λ (s : StepResult). s.answer) (stands x n)))
      (first-append x tests (again_tests l a d r u) (subst (λ (y : Answer). First y tests) e (answer-is-first tests))
      (λ q. false≢true (sym n ∙ ap is_taken q)))

  -- outside at the table reached
  outside-first : AllFail tests → outside r.horizon a d ≡ true → r.horizon ≤ l.table_horizon
      → Goal (record { answer = Ok Outside; load = with_table u r })
  unfolding added_to again
  outside-first p o low = go (eqb r.horizon l.table_horizon) refl
    where
      m : Load
      m = with_table u r

      go : (b : Bool) → eqb r.horizon l.table_horizon ≡ b
          → First (cond {A = StepResult} b (record { answer = Ok Outside; load = with_week l (with_table u r).week })
          (searched_as l (Ok Outside) (researched l.limit (with_table u r)))).answer (tests ++ again_tests l a d r (with_table u r))
      go true e =
          let h : ltb r.horizon l.table_horizon ≡ false =
          le-ltb r.horizon l.table_horizon (omega (arith, eqb-true r.horizon l.table_horizon e)) in
          first_past (Ok Outside) tests (again_tests l a d r (with_table u r)) p (hit (rw (o, h) refl))
      go false e =
          let h : ltb r.horizon l.table_horizon ≡ true =
          lt-ltb r.horizon l.table_horizon (omega (arith, low, eqb-false r.horizon l.table_horizon e)) in
          first_past _ tests (again_tests l a d r (with_table u r)) p
          (miss (rw (o, h) refl) (miss (rw o refl) (searched-first l (with_table u r) (new-with r) (Ok Outside)
          ((outside r.horizon a d, Ok Outside) ∷ []) (hit o))))

  -- the horizon of the table reached, where the call is outside there
  reached-low : plain_call u i ≡ record { answer = Ok Outside; load = with_table u r } → r.horizon ≤ l.table_horizon
  unfolding unsearched_of
  reached-low e = omega (arith, plain-low u i, ap (λ (x : StepResult). x.load.table_horizon) e)

  full-first : AllFail tests → outside r.horizon a d ≡ false → no_room_of r ≡ true → Goal (record { answer = Err NoRoom; load = u })
  full-first p o f =
      subst (λ (y : Answer). First y (tests ++ again_tests l a d r u)) (sym (ap (λ (s : StepResult). s.answer) (stands (Err NoRoom) refl)))
      (first_past (Err NoRoom) tests (again_tests l a d r u) p (miss (rw o refl) (hit (rw (o, f) refl))))

  taken-first : AllFail tests → outside r.horizon a d ≡ false → no_room_of r ≡ false
      → Goal (record { answer = Ok Taken; load = with_table u (put r c) })
  unfolding added_to again
  taken-first p o f =
      first_past _ tests (again_tests l a d r (with_table u (put r c))) p
      (miss (rw o refl) (miss (rw (o, f) refl) (searched-first l (with_table u (put r c)) (new-with (put r c)) (Ok Taken)
      ((outside r.horizon a d, Ok Outside) ∷ []) (miss o none))))

  passed_first : first_answer tests ≡ Ok Taken → Goal (plain_call u i)
  passed_first e = go (outside r.horizon a d) (no_room_of r) refl refl (passed-by e)
    where
      p : AllFail tests
      p = call-tests-fail false l.stop_count i e

      go : (o f : Bool) → outside r.horizon a d ≡ o → no_room_of r ≡ f → plain_call u i ≡ made u (fits (table_of l) r c o f)
          → Goal (plain_call u i)
      go true f x y q = subst Goal (sym q) (outside-first p x (reached-low q))
      go false true x y q = subst Goal (sym q) (full-first p x y)
      go false false x y q = subst Goal (sym q) (taken-first p x y)

  searched-call-first : Goal (plain_call u i)
  searched-call-first = go (first_answer tests) refl
    where
      go : (x : Answer) → first_answer tests ≡ x → Goal (plain_call u i)
      go (Ok Taken) e = passed_first e
      go (Ok Outside) e = subst Goal (sym (sent (Ok Outside) e ∙ ap (λ (m : Load). record { answer = Ok Outside; load = m }) same-table))
          (sent-first (Ok Outside) e refl)
      go (Err w) e = subst Goal (sym (sent (Err w) e)) (sent-first (Err w) e refl)

-- ---- and of any service

-- the week doesn't matter to what is answered
searched-week : (l : Load) (a : Answer) (q : StepResult) (w : Week)
    → (searched_as l a (record { answer = q.answer; load = with_week q.load w })).answer ≡ (searched_as l a q).answer
searched-week l a q w = go (is_taken q.answer)
  where
    go : (b : Bool) → (cond {A = StepResult} b (record { answer = a; load = with_week q.load w })
        (record { answer = q.answer; load = l })).answer
        ≡ (cond {A = StepResult} b (record { answer = a; load = q.load }) (record { answer = q.answer; load = l })).answer
    go true = refl
    go false = refl

week-answer : (l : Load) (a : Answer) (m : Load) (w : Week)
    → (added_to l (record { answer = a; load = with_week m w })).answer ≡ (added_to l (record { answer = a; load = m })).answer
unfolding added_to again
week-answer l a m w = go (leaves_table_of l (record { answer = a; load = m })) (is_refused a)
  where
    go : (b c : Bool)
        → (cond {A = StepResult} b (record { answer = a; load = with_week l w })
        (cond {A = StepResult} c (record { answer = a; load = l }) (searched_as l a (researched l.limit (with_week m w))))).answer
        ≡ (cond {A = StepResult} b (record { answer = a; load = with_week l m.week })
        (cond {A = StepResult} c (record { answer = a; load = l }) (searched_as l a (researched l.limit m)))).answer
    go true c = refl
    go false true = refl
    go false false = ap (λ (q : StepResult). (searched_as l a q).answer) (research-week l.limit m w)
        ∙ searched-week l a (researched l.limit m) w

search-tests-week : (l m : Load) (w : Week) → search_tests l (with_week m w) ≡ search_tests l m
unfolding timetable_of would_fall would_fall_within
search-tests-week l m w = ap (λ (b : Bool). (clashes (sorted (timetable_of m)), Err Neighbours) ∷ (b, Err NoRoom) ∷ []) (go l.limit)
  where
    go : (limit : Option ℕ) → falls_again limit (with_week m w) ≡ falls_again limit m
    go (Some n) = refl
    go None = refl

module _ (l : Load) (name : List ℕ) (i : CallInput) where
  abbrev runs : Running
  runs = running l.week name i.day

  abbrev rest : Load → List (Bool × Answer)
  rest m = again_tests l (a l i) (d l i) (r l i) m

  abbrev Answers : StepResult → Type 0
  Answers x = First (added_to l x).answer (field_tests false l.stop_count i ++ running_tests runs ++ time_tests i ++ rest x.load)

  plain-answers : runs ≡ Runs → Answers (plain_call (u l i) i)
  unfolding call_tests
  plain-answers e = insert-two (ap is_unknown e) (ap is_resting e) (searched-call-first l i)

  plain-unchanged : (m : Load) → is_refused (plain_call m i).answer ≡ true → (plain_call m i).load ≡ m
  unfolding plain_call
  plain-unchanged m e = cond-by _ _ e

  closing-answers : runs ≡ Runs → Answers (closing (u l i) (plain_call (u l i) i))
  closing-answers e = go (is_refused (plain_call (u l i) i).answer) refl
    where
      x : StepResult
      x = plain_call (u l i) i

      w : Week
      w = closed_week (u l i).week

      go : (b : Bool) → is_refused (plain_call (u l i) i).answer ≡ b
          → Answers (record {
            answer = (plain_call (u l i) i).answer;
            load = cond b (u l i) (with_week (plain_call (u l i) i).load (closed_week (u l i).week));
          })
      go true q = subst (λ (m : Load). Answers (record { answer = (plain_call (u l i) i).answer; load = m })) (plain-unchanged (u l i) q)
          (plain-answers e)
      go false q =
          subst (λ (y : Answer). First y (field_tests false l.stop_count i ++ running_tests runs ++ time_tests i
          ++ rest (with_week (plain_call (u l i) i).load (closed_week (u l i).week))))
          (sym (week-answer l (plain_call (u l i) i).answer (plain_call (u l i) i).load (closed_week (u l i).week)))
          (week-rest (plain_call (u l i) i).load (closed_week (u l i).week) (added_to l (plain_call (u l i) i)).answer (plain-answers e))
        where
          week-rest : (m : Load) (v : Week) (y : Answer)
              → First y (field_tests false l.stop_count i ++ running_tests runs ++ time_tests i ++ rest m)
              → First y (field_tests false l.stop_count i ++ running_tests runs ++ time_tests i ++ rest (with_week m v))
          week-rest m v y f = subst (λ (ts : List (Bool × Answer)).
              First y (field_tests false l.stop_count i ++ running_tests runs ++ time_tests i
              ++ ((outside (r l i).horizon (a l i) (d l i) && not (ltb (r l i).horizon l.table_horizon), Ok Outside)
              ∷ (not (outside (r l i).horizon (a l i) (d l i)) && no_room_of (r l i), Err NoRoom)
              ∷ ts ++ ((outside (r l i).horizon (a l i) (d l i), Ok Outside) ∷ [])))) (sym (search-tests-week l m v)) f

  -- sent back or outside by its service
  gate-answers : (y : Answer) (w : Week) → gate_answer false l.stop_count runs i ≡ y → is_taken y ≡ false
      → Answers (record { answer = y; load = with_week (u l i) w })
  unfolding gate_answer
  gate-answers y w e n =
      subst (λ (z : Answer). First z (field_tests false l.stop_count i ++ running_tests runs ++ time_tests i ++ rest (with_week (u l i) w)))
      (sym (week-answer l y (u l i) w ∙ ap (λ (s : StepResult). s.answer) (stands l i y n)))
      (first-append y (field_tests false l.stop_count i ++ running_tests runs) (time_tests i ++ rest (with_week (u l i) w))
      (subst (λ (z : Answer). First z (field_tests false l.stop_count i ++ running_tests runs)) e
      (answer-is-first (field_tests false l.stop_count i ++ running_tests runs)))
      (λ q. false≢true (sym n ∙ ap is_taken q)))

  undated-runs : is_dated l.week ≡ false → runs ≡ Runs
  undated-runs e = sym (runs-undated l.week name i.day e)

  call-answers : Answers (call_spec (u l i) name i)
  unfolding unsearched_of
  call-answers = go _ (called (u l i) name i)
    where
      go : (x : StepResult) → Called (u l i) name i x → Answers x
      go _ (without e) = plain-answers (undated-runs e)
      go _ (goes_on e f) = closing-answers (gate-passed false l.stop_count i _ f).1.1
      go _ (stays_out e f) = gate-answers (Ok Outside) (closed_week l.week) f refl
      go _ (sent_back e x f) = gate-answers (Err x) l.week f refl

  -- a refused call leaves the week
  refused-week : is_refused (call_spec (u l i) name i).answer ≡ true → (call_spec (u l i) name i).load.week ≡ l.week
  unfolding unsearched_of
  refused-week e = ap (λ (m : Load). m.week) ((step-answered (u l i) (call name i)).unchanged e)

added-same : (l : Load) (r : StepResult) → (is_refused r.answer ≡ true → r.load.week ≡ l.week) → is_refused (added_to l r).answer ≡ true
    → (added_to l r).load ≡ l
unfolding added_to
added-same l r h q = go (leaves_table_of l r) q
  where
    go : (b : Bool) → (let x = cond {A = StepResult} b (record { answer = r.answer; load = with_week l r.load.week }) (again l r) in
        is_refused x.answer ≡ true → x.load ≡ l)
    go true q = ap (with_week l) (h q)
    go false q = again-same l r q

-- 15 is no test of a call, whose load is not searched where it is done
abbrev called_by : Load → List ℕ → CallInput → Bool → List (Bool × Answer)
called_by l name i b = (not (known l.stop_count i), Err FieldRange) ∷ running_tests (running l.week name i.day) ++ time_tests i
    ++ later_tests b l name i

pub add-answered : AddAnswered
unfolding add_spec_of
add-answered l name i = go l.searched refl
  where
    go : (b : Bool) → l.searched ≡ b → Answered (cond b (added_to l (call_spec (unsearched_of l) name i)) (call_spec l name i)) l
        (called_by l name i b)
    go true e =
        let f = past_one (call-answers l name i) refl in
        record {
          first = f;
          taken = first_taken _ _ refl f;
          unchanged = added-same l (call_spec (unsearched_of l) name i) (refused-week l name i);
        }
    go false e =
        let w = step-answered l (call name i) in
        let f : First (call_spec l name i).answer (called_by l name i false) = past_one w.first e in
        record { first = f; taken = first_taken _ _ refl f; unchanged = w.unchanged }
