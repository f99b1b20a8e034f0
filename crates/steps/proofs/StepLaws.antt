-- What the machine's steps do to a load: what fills a load leaves a searched one, and does not search; best reads what is kept.
use Rattle.std.specs.Prelude.{None, Some, Option}
use Prim.Native.Nat.{ℕ, ◌+◌, ◌-◌, ◌≤◌}
use mathlib.Core.Path.{◌≡◌, refl, sym, ap, subst, ◌∙◌}
use mathlib.Core.Logic.{◌⊎◌, inl, inr}
use mathlib.Core.Bool.{Bool, true, false, cond, ◌&&◌, true≢false, false≢true}
use mathlib.Core.List.{List, [], ◌∷◌}
use native.Mathlib.Omega.{arith}
use borrow.Author.Tests.{eqb-true, leb-true}
use lib.Dec.{eqb, ltb}
use lib.IntN.{ℤ}
use lib.ListN.{length, take, set, replicate}
use lib.Seq.{take-append_seam}
use Rattle.laws.specs.Lists.{padded}
use Rattle.laws.proofs.Bools.{cond-not, or-true-cases, or-true-left}
use Rattle.refusal.specs.First.{First, hit, miss, is_refused, is_taken, Answer}
use Rattle.profile.specs.declared.Journey.{Journey}
use Rattle.profile.specs.Journeys.{no_journey, journey_figures}
use Rattle.profile.specs.Best.{bestℤ}
use Rattle.calls.specs.declared.CallInput.{CallInput}
use Rattle.calls.specs.Sound.{All, one_of, horizons}
use Rattle.rules.specs.Rules.{rule_tests}
use Rattle.stops.specs.Answer.{stop_tests}
use Rattle.transfer.specs.Changes.{joins_by, join_of}
use Rattle.offers.specs.Admitted.{InTime}
use Rattle.offers.specs.Search.{found, search_of}
use Rattle.week.specs.Weeks.{service_tests, exception_tests}
use Rattle.load.specs.declared.Load.{Load}
use Rattle.load.specs.declared.StepResult.{StepResult}
use Rattle.stops.specs.Taken.{stop_of}
use Rattle.load.specs.Load.{with_stops, with_rules, with_table}
use Rattle.load.specs.Steps.{station_in, stop_answer, stop_spec, call_fitted, plain_call, call_spec, rule_answer, rule_spec, service_spec}
use Rattle.load.specs.Steps.{exception_spec}
use Rattle.load.specs.FillStep.{FillStep, stop, call, rule, service, exception, filled}
use Rattle.load.specs.Sound.{Sound}
use Rattle.load.proofs.AnswerLaws.{step-answered}
use Rattle.load.proofs.TableLaws.{call-keeps}
use Rattle.search.specs.Timetable.{change_in, one_run, timetable_of}
use Rattle.search.specs.Search.{outcome_of, with_found, with_journeys, search_spec}
use Rattle.search.proofs.RunLaws.{search-again, taken-found}
use Rattle.again.specs.Again.{add_spec_of}
use Rattle.best.specs.Best as best
use Rattle.best.proofs.QueryLaws.{best-of-all}

-- ---- a searched load stays

pub first_holds : {a c : Answer} {b : Bool} {ts : List (Bool × Answer)} → First a ((b, c) ∷ ts) → b ≡ true → a ≡ c
first_holds (hit e) q = refl
first_holds (miss e f) q = absurd (true≢false (sym q ∙ e))

-- by a call as the load takes it before its search; one that comes after it goes another way
pub filled-stays : (l : Load) (x : FillStep) → l.searched ≡ true → (filled l x).load ≡ l
unfolding stop_tests rule_tests service_tests exception_tests
filled-stays l (stop id name parent i) e = let w =
    step-answered l (stop id name parent i) in w.unchanged (ap is_refused (first_holds w.first e))
filled-stays l (call name i) e = let w = step-answered l (call name i) in w.unchanged (ap is_refused (first_holds w.first e))
filled-stays l (rule i) e = let w = step-answered l (rule i) in w.unchanged (ap is_refused (first_holds w.first e))
filled-stays l (service name weekdays start end) e = let w =
    step-answered l (service name weekdays start end) in
    w.unchanged (ap is_refused (first_holds w.first (or-true-left l.searched l.week.closed e)))
filled-stays l (exception name date kind) e = let w =
    step-answered l (exception name date kind) in w.unchanged
    (ap is_refused (first_holds w.first (or-true-left l.searched l.week.closed e)))

-- a call that the load itself answers came before its search
pub call-before : (l : Load) (name : List ℕ) (i : CallInput) → is_refused (call_spec l name i).answer ≡ false
    → add_spec_of l name i ≡ call_spec l name i
unfolding add_spec_of
call-before l name i e = cond-not _ _ (go l.searched refl)
  where
    go : (b : Bool) → l.searched ≡ b → l.searched ≡ false
    go true q = absurd (true≢false (sym (ap is_refused (first_holds (step-answered l (call name i)).first q)) ∙ e))
    go false q = q

pub search-stays : (l : Load) → l.searched ≡ true → (search_spec l).load ≡ l
search-stays l e = ap (λ (r : StepResult). r.load) (search-again l e)

-- ---- the demands on a sound load

joins-late : (c : Option ℕ) (a d : ℕ) → joins_by c a d ≡ true → a ≤ d
joins-late (Some s) a d e = omega (arith, leb-true (a + s) d e)
joins-late None a d e = absurd (false≢true e)

cond-true : (b c : Bool) → cond b c false ≡ true → c ≡ true
cond-true true c e = e
cond-true false c e = absurd (false≢true e)

cond-false : (b c : Bool) → cond b false c ≡ true → c ≡ true
cond-false true c e = absurd (false≢true e)
cond-false false c e = e

pub sound-in-time : (l : Load) → InTime (timetable_of l)
unfolding timetable_of
sound-in-time l f b e =
    joins-late (change_in l f.to b.stop) f.arrival b.departure
    (cond-false (one_run f b) (joins_by (change_in l f.to b.stop) f.arrival b.departure)
    (cond-true (ltb f.to 128 && ltb b.stop 128) (join_of (change_in l f.to b.stop) (one_run f b) f.arrival b.departure) e))

one-of-below : (h b : ℕ) (ms : List ℕ) → All (λ m. m ≤ b) ms → one_of h ms ≡ true → h ≤ b
one-of-below h b [] a e = absurd (false≢true e)
one-of-below h b (m ∷ ms) a e = go (or-true-cases (eqb h m) (one_of h ms) e) (one-of-below h b ms a.1)
  where
    go : (eqb h m ≡ true) ⊎ (one_of h ms ≡ true) → (one_of h ms ≡ true → h ≤ b) → h ≤ b
    go (inl q) ih = omega (arith, eqb-true h m q, a.0)
    go (inr q) ih = ih q

pub sound-near : (l : Load) → Sound l → l.table_horizon ≤ 21600
sound-near l s = one-of-below l.table_horizon 21600 horizons
    (omega arith, (omega arith, (omega arith, (omega arith, (omega arith, (omega arith, (omega arith, tt))))))) s.table.known

pub sound-near-new : (l : Load) → Sound l → l.searched ≡ false → l.horizon ≤ 21600
sound-near-new l s e = omega (arith, s.same_horizon e, sound-near l s)

-- ---- best

answer-found : (o : Option Journey) → best.answer_of o ≡ o
answer-found None = refl
answer-found (Some j) = refl

-- the first of the list that leaves in time is best of all of it
pub best-asks : (l : Load) → Sound l → l.searched ≡ true → (z : ℤ)
    → best.answer_of (best.best_spec l z) ≡ bestℤ journey_figures (best.kept_of l) l.horizon z
best-asks l s e z = ap best.answer_of (best-of-all l e s.in_order z) ∙ answer-found (bestℤ journey_figures (best.kept_of l) l.horizon z)

pub best_none : (l : Load) → l.searched ≡ false → (z : ℤ) → best.answer_of (best.best_spec l z) ≡ None
unfolding best.best_spec
best_none l e z = ap best.answer_of (cond-not _ _ e)

-- ---- only a search searches

either-searched : (m l : Load) (b : Bool) → m.searched ≡ l.searched → (cond b m l).searched ≡ l.searched
either-searched m l true e = e
either-searched m l false e = refl

plain-searched : (l : Load) (i : CallInput) → (plain_call l i).load.searched ≡ l.searched
unfolding plain_call
plain-searched l i = either-searched l (with_table l (call_fitted l i).table) (is_refused (call_fitted l i).answer) refl

pub filled-searched : (l : Load) (x : FillStep) → (filled l x).load.searched ≡ l.searched
unfolding stop_spec rule_spec service_spec exception_spec
filled-searched l (stop id name parent i) =
    either-searched (with_stops l (set l.stops l.stop_count (stop_of id name (station_in l parent) i)) (l.stop_count + 1)) l
    (is_taken (stop_answer l id name parent i)) refl
filled-searched l (call name i) = call-keeps (λ (m : Load). m.searched) l name i (λ m w. refl) (plain-searched l i)
filled-searched l (rule i) = either-searched (with_rules l (set l.rules l.rule_count i) (l.rule_count + 1)) l
    (is_taken (rule_answer l i)) refl
filled-searched l (service name weekdays start end) = refl
filled-searched l (exception name date kind) = refl

-- what an accepted search found
pub record Finds (l m : Load) : Type 0 where
  pub is : search_of (timetable_of l) l.table_horizon l.table_limits ≡ found (best.kept_of m) m.horizon m.limits

kept_back : (ks : List Journey) → take (length ks) (padded no_journey 64 ks) ≡ ks
kept_back ks = take-append_seam ks (replicate (64 - length ks) no_journey)

-- what is kept of the journeys found
pub found-kept : (l : Load) (ks : List Journey) (h m : ℕ) (limit : Option ℕ) → best.kept_of (with_found l ks h m limit) ≡ ks
found-kept l ks h m limit = kept_back ks

-- a search that is answered taken ran on a load not searched before, and leaves it searched
pub record Searches (l : Load) : Type 0 where
  pub new : l.searched ≡ false
  pub searched : (search_spec l).load.searched ≡ true
  pub finds : Finds l (search_spec l).load

pub taken-searches : (l : Load) → is_taken (search_spec l).answer ≡ true → Searches l
unfolding outcome_of
taken-searches l t =
    let w = taken-found l t in
    let m : Load = with_journeys l w.kept w.to w.mark in
    let is : (search_spec l).load ≡ m = ap (λ (r : StepResult). r.load) w.is in
    record {
      new = w.new;
      searched = ap (λ (n : Load). n.searched) is;
      finds = subst (Finds l) (sym is) (record { is = w.outcome ∙ (λ i. found (sym (kept_back w.kept) i) w.to w.mark) });
    }
