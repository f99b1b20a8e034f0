-- What becomes of a call, told without the stored calls; and that the step follows it where the table has room.
use Rattle.refusal.specs.declared.Accepted.TheVariants.{Taken, Outside}
use Rattle.std.specs.Prelude.{None, Option, Some, Err, Ok}
use Prim.Native.Nat.{ℕ, ◌≤◌, ◌<◌}
use mathlib.Core.Path.{◌≡◌, refl, sym, ap, subst, ◌∙◌}
use mathlib.Core.Logic.{◌⊎◌, inl, inr}
use mathlib.Core.Bool.{Bool, true, false, cond, ◌||◌, true≢false}
use mathlib.Core.List.{List, [], ◌∷◌, ◌++◌}
use native.Mathlib.Omega.{arith}
use lib.Dec.{eqb, ltb}
use borrow.Author.Tests.{ltb-false, lt-ltb, le-ltb}
use Rattle.laws.specs.Lists.{All}
use Rattle.laws.proofs.Bools.{cond-by, cond-not, or-true-left, or_true_right}
use Rattle.refusal.specs.declared.Refusal.{Refusal}
use Rattle.refusal.specs.declared.Refusal.TheVariants.{NoRoom}
use Rattle.refusal.specs.First.{first_answer, is_refused, answer_number, Answer}
use Rattle.settings.specs.declared.Settings.{Settings}
use Rattle.calls.specs.declared.Call.{Call}
use Rattle.calls.specs.declared.CallInput.{CallInput}
use Rattle.calls.specs.declared.Table.{Table}
use Rattle.calls.specs.Tried.{Tried}
use Rattle.calls.specs.declared.Uncut.TheVariants.{Outside as Beyond}
use Rattle.calls.specs.Windows.{seen}
use Rattle.calls.specs.Tables.{put}
use Rattle.calls.specs.Calls.{field_tests, call_tests, call_time, call_seen, call_fit, ended, goes_on_of, call_on}
use Rattle.calls.specs.Uncut.{uncut_view, uncut_by, uncut_on}
use Rattle.calls.proofs.CallLaws as fields
use Rattle.calls.proofs.FitLaws.{cut-shrinks}
use Rattle.calls.proofs.Fits.{Ends, stands, enters, turned, Keeps, ends}
use Rattle.calls.proofs.SoundLaws.{passed}
use Rattle.calls.proofs.ShownLaws.{refused-same}
use Rattle.week.specs.Weeks.{is_dated, undated_week, closed_week, running}
use Rattle.load.specs.declared.Load.{Load}
use Rattle.load.specs.declared.StepResult.{StepResult}
use Rattle.load.specs.Load.{table_of, seen_of, with_seen, with_table, with_week}
use Rattle.load.specs.Steps.{call_fitted, plain_call, running_tests, gate_answer, closed_load, closing}
use Rattle.load.specs.Sound.{Sound}
use Rattle.load.proofs.StepLaws.{call-refused, call-goes-in, call-outside, Called, without, goes_on, stays_out, sent_back, called}
use Rattle.load.proofs.TableLaws.{closing_same}
use Rattle.any_order.specs.Calls.{Named, calling, cramps}

-- ---- what becomes of a call

-- it is sent back, it is outside, or it goes in as it is seen, if there is room
pub data Fate : Type 0 where
  sent : Refusal → Fate
  out : Fate
  goes : Call → Fate

abbrev seen_fate : Option Call → Fate
seen_fate None = out
seen_fate (Some k) = goes k

-- the answer of the tests, or what comes after them
abbrev test_fate : Answer → Fate → Fate
test_fate (Ok Taken) f = f
test_fate (Ok Outside) f = out
test_fate (Err r) f = sent r

abbrev plain_fate : Load → CallInput → Fate
plain_fate l i = test_fate (first_answer (call_tests l.searched l.stop_count i)) (seen_fate (call_seen l.settings l.table_horizon i))

abbrev gate_of : Load → Named → Answer
gate_of l c = gate_answer l.searched l.stop_count (running l.week c.0 c.1.day) c.1

unfoldable pub fate : Load → Named → Fate
fate l c = cond (is_dated l.week) (test_fate (gate_of l c) (plain_fate l c.1)) (plain_fate l c.1)

-- the answer, and the load that is left: an answered call closes the services
abbrev pub said : Fate → Answer
said (sent r) = Err r
said out = Ok Outside
said (goes k) = Ok Taken

abbrev pub stored : Load → Call → Load
stored l k = with_seen l (put (table_of l) k) (seen_of l)

abbrev pub left : Load → Fate → Load
left l (sent r) = l
left l out = closed_load l
left l (goes k) = closed_load (stored l k)

-- a table of n calls has room for it
abbrev pub fits : ℕ → Fate → Bool
fits n (sent r) = true
fits n out = true
fits n (goes k) = ltb n 512

-- what is left leaves every call its fate
pub fate-left : (l : Load) (f : Fate) (c : Named) → fate (left l f) c ≡ fate l c
unfolding fate running
fate-left l (sent r) c = refl
fate-left l out c = refl
fate-left l (goes k) c = refl

-- ---- a call that meets a full table

-- the table u that t has come to: t itself, or a lower one
abbrev Down : Table → Table → Type 0
Down t u = (u ≡ t) ⊎ (u.horizon < t.horizon)

down-keeps : (a d : Option ℕ) (i : CallInput) (t : Table) → Keeps (Down t) a d i
down-keeps a d i t u c p e f l = inr (go p (cut-shrinks u _ refl l))
  where
    go : {h : ℕ} → Down t u → h < u.horizon → h < t.horizon
    go (inl q) m = omega (arith, ap (λ (x : Table). x.horizon) q)
    go (inr q) m = omega arith

module _ (s : Settings) (b : Bool) (n : ℕ) (t : Table) (i : CallInput) (k : Call) where
  abbrev arr : Option ℕ
  arr = call_time s i i.arrival

  abbrev dep : Option ℕ
  dep = call_time s i i.departure

  -- 11, or the horizon falls
  abbrev Turned : Tried → Type 0
  Turned f = (f.answer ≡ Err NoRoom) ⊎ (f.table.horizon < t.horizon)

  turns : seen t.horizon arr dep i ≡ Some k → 512 ≤ t.count → (f : Tried) → Ends (Down t) arr dep i f → Turned (ended t f)
  turns e h _ (stands u (inl q) o) = absurd (cc)
  turns e h _ (stands u (inr q) o) = inr q
  turns e h _ (enters u c (inl q) o m) = absurd (omega (arith, ap (λ (x : Table). x.count) q))
  turns e h _ (enters u c (inr q) o m) = inr q
  turns e h _ (turned u c p o m g) = inl refl

  full-turns : first_answer (call_tests b n i) ≡ Ok Taken → call_seen s t.horizon i ≡ Some k → 512 ≤ t.count → Turned (call_on s b n t i)
  unfolding call_on call_fit
  full-turns q e h = subst (λ (a : Answer). Turned (goes_on_of s t i a)) (sym q)
      (turns e h _ (ends (Down t) arr dep i (down-keeps arr dep i t) t (inl refl)))

-- ---- the step without dates

abbrev plain_left : Load → Fate → Load
plain_left l (sent r) = l
plain_left l out = l
plain_left l (goes k) = stored l k

-- where there is room the step is the fate's; where there is none it meets 11 or cuts
record Comes (l : Load) (r : StepResult) (f : Fate) (m : Load) : Type 0 where
  room : fits l.call_count f ≡ true → r ≡ record { answer = said f; load = m }
  full : fits l.call_count f ≡ false → cramps l r ≡ true

roomy : (l : Load) (r : StepResult) (f : Fate) (m : Load) → fits l.call_count f ≡ true → r ≡ record { answer = said f; load = m }
    → Comes l r f m
roomy l r f m t e = record { room = λ q. e; full = λ q. absurd (true≢false (sym t ∙ q)) }

module _ (l : Load) (i : CallInput) (s : Sound l) where
  abbrev tested : Answer
  tested = first_answer (call_tests l.searched l.stop_count i)

  -- until the search, the load's horizon and mark are the table's
  as_seen : l.searched ≡ false → (cs : List Call) (n : ℕ)
      → (let t : Table = record { calls = cs; count = n; horizon = l.table_horizon; limits = l.table_limits } in
      with_table l t ≡ with_seen l t (seen_of l))
  as_seen u cs n = λ k. with_seen l (record { calls = cs; count = n; horizon = l.table_horizon; limits = l.table_limits })
      (record {
        journeys = l.journeys;
        count = l.journey_count;
        horizon = sym (s.same_horizon u) k;
        limits = sym (s.same_limits u) k;
        searched = l.searched;
        limit = l.limit;
      })

  is-outside : l.searched ≡ false → uncut_on l.settings l.searched l.stop_count l.call_count l.table_horizon i ≡ Beyond
      → plain_call l i ≡ record { answer = Ok Outside; load = l }
  is-outside u e = call-outside l i e ∙ (λ k. record { answer = Ok Outside; load = as_seen u l.calls l.call_count k })

  unsearched-outside : tested ≡ Ok Outside → l.searched ≡ false
  unfolding call_tests first_answer
  unsearched-outside q = go l.searched refl
    where
      go : (b : Bool) → l.searched ≡ b → l.searched ≡ false
      go false e = e
      go true e = absurd (true≢false (ap is_refused (fields.searched l.searched l.stop_count i e ∙ q)))

  full-cramps : (k : Call) → tested ≡ Ok Taken → call_seen l.settings l.table_horizon i ≡ Some k → 512 ≤ l.call_count
      → cramps l (plain_call l i) ≡ true
  unfolding plain_call
  full-cramps k q e h = go (full-turns l.settings l.searched l.stop_count (table_of l) i k q e h)
    where
      falls : (call_fitted l i).table.horizon < l.table_horizon → (b : Bool) → is_refused (call_fitted l i).answer ≡ b
          → ltb (cond b l (with_table l (call_fitted l i).table)).table_horizon l.table_horizon ≡ true
      falls m true z = absurd (omega (
        arith,
        m,
        ap (λ (t : Table). t.horizon)
            (refused-same l.settings l.searched l.stop_count (table_of l) i z),
      ))
      falls m false z = lt-ltb (call_fitted l i).table.horizon l.table_horizon m

      go : ((call_fitted l i).answer ≡ Err NoRoom) ⊎ ((call_fitted l i).table.horizon < l.table_horizon) → cramps l (plain_call l i) ≡ true
      go (inl a) = or-true-left (eqb (answer_number (call_fitted l i).answer) 11)
          (ltb (plain_call l i).load.table_horizon l.table_horizon) (ap (λ (x : Answer). eqb (answer_number x) 11) a)
      go (inr m) = or_true_right (eqb (answer_number (call_fitted l i).answer) 11)
          (ltb (plain_call l i).load.table_horizon l.table_horizon) (falls m (is_refused (call_fitted l i).answer) refl)

  by-view : tested ≡ Ok Taken → (v : Option Call) → call_seen l.settings l.table_horizon i ≡ v
      → Comes l (plain_call l i) (seen_fate v) (plain_left l (seen_fate v))
  unfolding uncut_on
  by-view q None e = roomy l (plain_call l i) out l refl
      (is-outside (passed _ _ i q).unsearched (λ k. uncut_by (q k) (uncut_view l.call_count (e k))))
  by-view q (Some c) e = record { room = λ h. goes_in h; full = λ h. full-cramps c q e (ltb-false _ _ h) }
    where
      goes_in : ltb l.call_count 512 ≡ true → plain_call l i ≡ record { answer = Ok Taken; load = stored l c }
      goes_in h =
          call-goes-in l i c ((λ k. uncut_by (q k) (uncut_view l.call_count (e k))) ∙ cond-by _ _ h)
          ∙ (λ k. record {
            answer = Ok Taken;
            load = as_seen (passed _ _ i q).unsearched (put (table_of l) c).calls
                (put (table_of l) c).count k;
          })

  by_tests : (a : Answer) → tested ≡ a
      → (let f = test_fate a (seen_fate (call_seen l.settings l.table_horizon i)) in Comes l (plain_call l i) f (plain_left l f))
  unfolding uncut_on
  by_tests (Ok Taken) q = by-view q _ refl
  by_tests (Ok Outside) q = roomy l (plain_call l i) out l refl
      (is-outside (unsearched-outside q) (λ k. uncut_by (q k) (uncut_view l.call_count (call_seen l.settings l.table_horizon i))))
  by_tests (Err r) q =
      roomy l (plain_call l i) (sent r) l refl (sym
      (call-refused l i _ (fields.sent_back l.settings l.searched l.stop_count (table_of l) i (Err r) r (sym q) refl) refl))

  plain-comes : Comes l (plain_call l i) (plain_fate l i) (plain_left l (plain_fate l i))
  plain-comes = by_tests tested refl

-- ---- the step with its service

-- without dates the services are closed from the start
shut : (l : Load) → Sound l → is_dated l.week ≡ false → (f : Fate) → plain_left l f ≡ left l f
unfolding undated_week
shut l s d f = go f
  where
    same : l.week ≡ closed_week l.week
    same = s.week.undated d ∙ ap closed_week (sym (s.week.undated d))

    go : (f : Fate) → plain_left l f ≡ left l f
    go (sent r) = refl
    go out = λ k. with_week l (same k)
    go (goes c) = λ k. with_week (stored l c) (same k)

-- with dates an answered call closes them
shuts : (l : Load) (f : Fate) → closing l (record { answer = said f; load = plain_left l f }) ≡ record { answer = said f; load = left l f }
shuts l (sent r) = refl
shuts l out = refl
shuts l (goes c) = refl

closing-cramps : (l : Load) (i : CallInput) → cramps l (closing l (plain_call l i)) ≡ cramps l (plain_call l i)
closing-cramps l i = λ k. eqb (answer_number (plain_call l i).answer) 11 || ltb
    (closing_same (λ (m : Load). m.table_horizon) l i (λ m w. refl) k) l.table_horizon

module _ (l : Load) (name : List ℕ) (i : CallInput) (s : Sound l) where
  abbrev Comes-to : StepResult → Fate → Type 0
  Comes-to r f = Comes l r f (left l f)

  by-service : (r : StepResult) → Called l name i r → Comes-to r (fate l (name, i))
  unfolding fate
  by-service _ (without d) =
      subst (Comes-to (plain_call l i)) (sym (cond-not _ _ d))
      (subst (Comes l (plain_call l i) (plain_fate l i)) (shut l s d (plain_fate l i)) (plain-comes l i s))
  by-service _ (goes_on d e) = subst (Comes-to (closing l (plain_call l i)))
      (sym (cond-by _ _ d ∙ ap (λ (a : Answer). test_fate a (plain_fate l i)) e)) closed
    where
      closed : Comes-to (closing l (plain_call l i)) (plain_fate l i)
      closed = record {
        room = λ h. ap (closing l) ((plain-comes l i s).room h) ∙ shuts l (plain_fate l i);
        full = λ h. closing-cramps l i ∙ (plain-comes l i s).full h;
      }
  by-service r (stays_out d e) = subst (Comes-to r) (sym (cond-by _ _ d ∙ ap (λ (a : Answer). test_fate a (plain_fate l i)) e))
      (roomy l r out (closed_load l) refl refl)
  by-service r (sent_back d w e) = subst (Comes-to r) (sym (cond-by _ _ d ∙ ap (λ (a : Answer). test_fate a (plain_fate l i)) e))
      (roomy l r (sent w) l refl refl)

-- ---- no call is sent back with 11 before the table

abbrev not11 : Answer → Type 0
not11 a = eqb (answer_number a) 11 ≡ false

first-not : (ts : List (Bool × Answer)) → All (λ (t : Bool × Answer). not11 t.1) ts → not11 (first_answer ts)
unfolding first_answer
first-not [] p = refl
first-not (t ∷ ts) p = go t.0 (first-not ts p.1)
  where
    go : (b : Bool) → not11 (first_answer ts) → not11 (cond b t.1 (first_answer ts))
    go true r = p.0
    go false r = r

test-not : (a : Answer) (f : Fate) → not11 a → not11 (said f) → not11 (said (test_fate a f))
test-not (Ok Taken) f p q = q
test-not (Ok Outside) f p q = refl
test-not (Err r) f p q = p

fate-not : (l : Load) (c : Named) → not11 (said (fate l c))
unfolding fate gate_answer call_tests
fate-not l c = go (is_dated l.week)
  where
    view : (v : Option Call) → not11 (said (seen_fate v))
    view None = refl
    view (Some k) = refl

    plain : not11 (said (plain_fate l c.1))
    plain = test-not (first_answer (call_tests l.searched l.stop_count c.1)) (seen_fate (call_seen l.settings l.table_horizon c.1))
        (first-not (call_tests l.searched l.stop_count c.1) (refl, (refl, (refl, (refl, tt)))))
        (view (call_seen l.settings l.table_horizon c.1))

    go : (b : Bool) → not11 (said (cond b (test_fate (gate_of l c) (plain_fate l c.1)) (plain_fate l c.1)))
    go true = test-not (gate_of l c) (plain_fate l c.1)
        (first-not (field_tests l.searched l.stop_count c.1 ++ running_tests (running l.week c.0 c.1.day))
        (refl, (refl, (refl, (refl, tt))))) plain
    go false = plain

-- ---- the step

module _ (l : Load) (c : Named) (s : Sound l) where
  comes : Comes l (calling l c) (fate l c) (left l (fate l c))
  comes = by-service l c.0 c.1 s _ (called l c.0 c.1)

  -- it meets 11 or a cut exactly if there is no room
  pub cramps-full : fits l.call_count (fate l c) ≡ false → cramps l (calling l c) ≡ true
  cramps-full h = comes.full h

  pub step_is : fits l.call_count (fate l c) ≡ true → calling l c ≡ record { answer = said (fate l c); load = left l (fate l c) }
  step_is h = comes.room h

  pub cramps-not : fits l.call_count (fate l c) ≡ true → cramps l (calling l c) ≡ false
  cramps-not h = ap (cramps l) (step_is h) ∙ go (fate l c) (fate-not l c)
    where
      go : (f : Fate) → not11 (said f) → cramps l (record { answer = said f; load = left l f }) ≡ false
      go (sent r) p = (λ k. p k || ltb l.table_horizon l.table_horizon) ∙ le-ltb l.table_horizon l.table_horizon (omega arith)
      go out p = le-ltb l.table_horizon l.table_horizon (omega arith)
      go (goes k) p = le-ltb l.table_horizon l.table_horizon (omega arith)
