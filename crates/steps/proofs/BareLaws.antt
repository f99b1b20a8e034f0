-- The week stands beside what every step but a call reads: a load and the load without its week are answered alike.
use Prim.Native.Nat.{ℕ, ◌+◌}
use mathlib.Core.Path.{◌≡◌, refl, sym, ap, ◌∙◌}
use mathlib.Core.Bool.{Bool, true, false, cond, true≢false}
use mathlib.Core.List.{List, []}
use borrow.Author.Tests.{eq-eqb}
use lib.ListN.{set}
use Rattle.std.specs.Prelude.{Option}
use Rattle.refusal.specs.First.{is_taken, is_refused}
use Rattle.stops.specs.declared.StopInput.{StopInput}
use Rattle.stops.specs.Taken.{stop_of}
use Rattle.calls.specs.declared.CallInput.{CallInput}
use Rattle.rules.specs.declared.Rule.{Rule}
use Rattle.calls.specs.declared.CallKey.{CallKey}
use Rattle.withdrawal.specs.Removal.{withdrawn}
use Rattle.week.specs.declared.Running.TheVariants.{Runs}
use Rattle.week.specs.Weeks.{is_dated, undated_week, running}
use Rattle.load.specs.declared.Load.{Load}
use Rattle.load.specs.declared.StepResult.{StepResult}
use Rattle.load.specs.Load.{table_of, with_week, with_table, with_stops, with_rules}
use Rattle.load.specs.Steps.{station_in, stop_answer, stop_spec, call_fitted, plain_call, closing, call_spec, rule_answer, rule_spec}
use Rattle.load.proofs.StepLaws.{Called, without, goes_on, stays_out, sent_back, called, gate-passed, call-undated}
use Rattle.load.proofs.TableLaws.{closing_same}
use Rattle.load.proofs.WeekLaws.{call-runs, call-rests}
use Rattle.search.specs.Search.{search_spec}
use Rattle.search.specs.Within.{within_spec, step_of}
use Rattle.again.specs.Again.{unsearched_of, researched, again, searched_as, leaves_table_of, added_to, add_spec_of, withdraw_answer}
use Rattle.again.specs.Again.{taken_out, withdraw_spec}
use Rattle.again.proofs.WeekLaws.{search-week, within-week, research-week}

undated-not : is_dated undated_week ≡ false
unfolding undated_week
undated-not = refl

-- a load, its week taken off
abbrev pub bare : Load → Load
bare l = with_week l undated_week

abbrev pub bared : StepResult → StepResult
bared r = record { answer = r.answer; load = bare r.load }

-- ---- stop, rule, search and plain call

pub bare-stop : (l : Load) (id : List ℕ) (name parent : Option (List ℕ)) (i : StopInput)
    → stop_spec (bare l) id name parent i ≡ bared (stop_spec l id name parent i)
unfolding stop_spec
bare-stop l id name parent i = go (is_taken (stop_answer l id name parent i))
  where
    go : (b : Bool) → ◌≡◌ {A = StepResult} (record {
      answer = stop_answer l id name parent i;
      load = cond b (with_stops (bare l) (set l.stops l.stop_count (stop_of id name (station_in l parent) i)) (l.stop_count + 1)) (bare l);
    })
        (record {
          answer = stop_answer l id name parent i;
          load = bare (cond b (with_stops l (set l.stops l.stop_count (stop_of id name (station_in l parent) i)) (l.stop_count + 1)) l);
        })
    go true = refl
    go false = refl

pub bare-rule : (l : Load) (i : Rule) → rule_spec (bare l) i ≡ bared (rule_spec l i)
unfolding rule_spec
bare-rule l i = go (is_taken (rule_answer l i))
  where
    go : (b : Bool) → ◌≡◌ {A = StepResult} (record {
      answer = rule_answer l i;
      load = cond b (with_rules (bare l) (set l.rules l.rule_count i) (l.rule_count + 1)) (bare l);
    })
        (record { answer = rule_answer l i; load = bare (cond b (with_rules l (set l.rules l.rule_count i) (l.rule_count + 1)) l) })
    go true = refl
    go false = refl

bare-plain : (l : Load) (i : CallInput) → plain_call (bare l) i ≡ bared (plain_call l i)
unfolding plain_call
bare-plain l i = go (is_refused (call_fitted l i).answer)
  where
    go : (b : Bool) → ◌≡◌ {A = StepResult} (record {
      answer = (call_fitted l i).answer;
      load = cond b (bare l) (with_table (bare l) (call_fitted l i).table);
    })
        (record { answer = (call_fitted l i).answer; load = bare (cond b l (with_table l (call_fitted l i).table)) })
    go true = refl
    go false = refl

pub bare-search : (l : Load) → search_spec (bare l) ≡ bared (search_spec l)
bare-search l = search-week l undated_week

pub bare-limited : (l : Load) (n : ℕ) → step_of (within_spec (bare l) n) ≡ bared (step_of (within_spec l n))
bare-limited l n = within-week l n undated_week

-- ---- a step on the unsearched load, and a search

bare-unsearched : (l : Load) → unsearched_of (bare l) ≡ bare (unsearched_of l)
unfolding unsearched_of
bare-unsearched l = refl

bare-again : (l : Load) (r : StepResult) → again (bare l) (bared r) ≡ bared (again l r)
unfolding again
bare-again l r =
    ap (λ (q : StepResult). cond (is_refused r.answer) (record { answer = r.answer; load = bare l }) (searched_as (bare l) r.answer q))
    (research-week l.limit r.load undated_week)
    ∙ go (is_refused r.answer) (is_taken (researched l.limit r.load).answer)
  where
    go : (b c : Bool) → cond {A = StepResult} b (record { answer = r.answer; load = bare l })
        (cond {A = StepResult} c (record { answer = r.answer; load = bare (researched l.limit r.load).load })
        (record { answer = (researched l.limit r.load).answer; load = bare l }))
        ≡ bared (cond {A = StepResult} b (record { answer = r.answer; load = l })
        (cond {A = StepResult} c (record { answer = r.answer; load = (researched l.limit r.load).load })
        (record { answer = (researched l.limit r.load).answer; load = l })))
    go true c = refl
    go false true = refl
    go false false = refl

bare-added : (l : Load) (r : StepResult) → added_to (bare l) (bared r) ≡ bared (added_to l r)
unfolding added_to
bare-added l r = ap (λ (q : StepResult). cond (leaves_table_of l r) (record { answer = r.answer; load = bare l }) q) (bare-again l r)
    ∙ go (leaves_table_of l r)
  where
    go : (b : Bool) → cond {A = StepResult} b (record { answer = r.answer; load = bare l }) (bared (again l r))
        ≡ bared (cond {A = StepResult} b (record { answer = r.answer; load = with_week l r.load.week }) (again l r))
    go true = refl
    go false = refl

-- ---- withdrawal

bare-out : (l : Load) (k : CallKey) → taken_out (bare l) k ≡ bared (taken_out l k)
unfolding taken_out
bare-out l k = go (is_taken (withdraw_answer l k))
  where
    go : (b : Bool) → ◌≡◌ {A = StepResult} (record {
      answer = withdraw_answer l k;
      load = cond b (with_table (bare l) (withdrawn (table_of l) k)) (bare l);
    })
        (record { answer = withdraw_answer l k; load = bare (cond b (with_table l (withdrawn (table_of l) k)) l) })
    go true = refl
    go false = refl

pub bare-withdraw : (l : Load) (k : CallKey) → withdraw_spec (bare l) k ≡ bared (withdraw_spec l k)
unfolding withdraw_spec
bare-withdraw l k = go l.searched
  where
    go : (b : Bool) → cond b (again (bare l) (taken_out (unsearched_of (bare l)) k)) (taken_out (bare l) k)
        ≡ bared (cond b (again l (taken_out (unsearched_of l) k)) (taken_out l k))
    go true =
        ap (again (bare l)) (ap (λ (m : Load). taken_out m k) (bare-unsearched l) ∙ bare-out (unsearched_of l) k)
        ∙ bare-again l (taken_out (unsearched_of l) k)
    go false = bare-out l k

-- ---- call

-- of a service that runs: the call's own step
bare-call : (l : Load) (name : List ℕ) (i : CallInput) → is_dated l.week ≡ true → running l.week name i.day ≡ Runs
    → call_spec (bare l) [] i ≡ bared (call_spec l name i)
bare-call l name i d e =
    let same : bare (closing l (plain_call l i)).load ≡ bare (plain_call l i).load = closing_same bare l i (λ m w. refl) in
    sym (call-undated (bare l) [] i undated-not) ∙ bare-plain l i ∙ (λ k. record { answer = (plain_call l i).answer; load = sym same k })
    ∙ ap bared (sym (call-runs l name i d e))

module _ (l : Load) (name : List ℕ) (i : CallInput) (d : is_dated l.week ≡ true) where
  abbrev u : Load
  u = unsearched_of l

  dated-back : is_dated (unsearched_of l).week ≡ true
  unfolding unsearched_of
  dated-back = d

  same-running : running (unsearched_of l).week name i.day ≡ running l.week name i.day
  unfolding unsearched_of
  same-running = refl

  same_horizon : (unsearched_of l).table_horizon ≡ l.table_horizon
  unfolding unsearched_of
  same_horizon = refl

  pub bare-add : running l.week name i.day ≡ Runs → add_spec_of (bare l) [] i ≡ bared (add_spec_of l name i)
  unfolding add_spec_of
  bare-add e = go l.searched
    where
      go : (b : Bool) → cond b (added_to (bare l) (call_spec (unsearched_of (bare l)) [] i)) (call_spec (bare l) [] i)
          ≡ bared (cond b (added_to l (call_spec u name i)) (call_spec l name i))
      go true =
          ap (added_to (bare l)) (ap (λ (m : Load). call_spec m [] i) (bare-unsearched l)
          ∙ bare-call u name i dated-back (same-running ∙ e))
          ∙ bare-added l (call_spec u name i)
      go false = bare-call l name i d e

-- of one that doesn't run: the table is left, and with it the load but for its week
rests-out : (l : Load) (name : List ℕ) (i : CallInput) → is_dated l.week ≡ true → (running l.week name i.day ≡ Runs → ⊥)
    → is_taken (call_spec l name i).answer ≡ false
rests-out l name i d n = go _ (called l name i)
  where
    go : (r : StepResult) → Called l name i r → is_taken r.answer ≡ false
    go _ (without e) = absurd (true≢false (sym d ∙ e))
    go _ (goes_on e g) = absurd (n (gate-passed l.searched l.stop_count i _ g).1.1)
    go _ (stays_out e g) = refl
    go _ (sent_back e r g) = refl

left-bare : (l : Load) (r : StepResult) → leaves_table_of l r ≡ true → bare (added_to l r).load ≡ bare l
unfolding added_to
left-bare l r e = rw e refl

pub bare-rests : (l : Load) (name : List ℕ) (i : CallInput) → is_dated l.week ≡ true → (running l.week name i.day ≡ Runs → ⊥)
    → bare (add_spec_of l name i).load ≡ bare l
unfolding add_spec_of
bare-rests l name i d n = go l.searched
  where
    u : Load
    u = unsearched_of l

    rests : running (unsearched_of l).week name i.day ≡ Runs → ⊥
    rests q = n (sym (same-running l name i d) ∙ q)

    horizon : (call_spec (unsearched_of l) name i).load.table_horizon ≡ l.table_horizon
    horizon = call-rests (unsearched_of l) name i (dated-back l name i d) (λ (m : Load). m.table_horizon) (λ m w. refl) rests
        ∙ same_horizon l name i d

    leaves : leaves_table_of l (call_spec (unsearched_of l) name i) ≡ true
    leaves = rw (rests-out (unsearched_of l) name i (dated-back l name i d) rests, eq-eqb _ _ horizon) refl

    go : (b : Bool) → bare (cond b (added_to l (call_spec (unsearched_of l) name i)) (call_spec l name i)).load ≡ bare l
    go true = left-bare l (call_spec (unsearched_of l) name i) leaves
    go false = call-rests l name i d bare (λ m w. refl) n
