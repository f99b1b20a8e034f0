-- Withdrawing straight after taking gives back a searched load too, if the table's horizon didn't fall.
use Rattle.refusal.specs.declared.Accepted.TheVariants.{Taken}
use Rattle.std.specs.Prelude.{None, Option, Some, is_some, Ok}
use Prim.Native.Nat.{ℕ, ◌+◌, ◌≤◌, ◌<◌}
use mathlib.Core.Path.{◌≡◌, refl, sym, ap, subst, ◌∙◌}
use mathlib.Core.Bool.{Bool, true, false, cond, not, ◌&&◌, true≢false, false≢true}
use mathlib.Core.List.{List, [], ◌∷◌, ◌++◌}
use lib.Dec.{eqb}
use lib.ListN.{take, set}
use Rattle.laws.specs.Lists.{anyb}
use Rattle.laws.proofs.Bools.{cond-by, cond-not}
use Rattle.refusal.specs.First.{is_refused, is_taken}
use Rattle.calls.specs.declared.Call.{Call}
use Rattle.calls.specs.declared.CallInput.{CallInput}
use Rattle.calls.specs.declared.Table.{Table}
use Rattle.calls.specs.Tables.{put}
use Rattle.calls.specs.Shown.{table_calls}
use Rattle.calls.proofs.SoundLaws.{put-calls}
use Rattle.profile.specs.declared.Journey.{Journey}
use Rattle.offers.specs.Order.{in_order_of, sort_first, clashes}
use Rattle.offers.specs.Offers.{with_calls, sorted}
use Rattle.offers.proofs.OrderLaws.{sorted_front}
use Rattle.limited.specs.Limited.{finished_within}
use Rattle.load.specs.declared.Load.{Load}
use Rattle.load.specs.declared.StepResult.{StepResult}
use Rattle.load.specs.Load.{stopped, table_of, with_table, with_week}
use Rattle.load.specs.Steps.{closed_load, call_spec}
use Rattle.load.specs.FillStep.{call}
use Rattle.load.specs.Sound.{Sound}
use Rattle.load.proofs.SoundLaws.{fill-keeps-sound}
use Rattle.search.specs.Timetable.{timetable_of}
use Rattle.search.specs.Search.{with_found}
use Rattle.search.specs.Within.{finishes_in, step_of}
use Rattle.calls.specs.declared.CallKey.{CallKey}
use Rattle.withdrawal.specs.Removal.{without_last, key_of, has_key, key_known}
use Rattle.withdrawal.proofs.BackLaws.{left_back}
use Rattle.again.specs.Again.{unsearched_of, researched, again, searched_as, leaves_table_of, added_to, add_spec_of, taken_out}
use Rattle.again.specs.Again.{withdraw_spec}
use Rattle.again.proofs.SortLaws.{sorted-gone, sorted-there}
use Rattle.search.proofs.RunLaws.{taken-found}
use Rattle.search.proofs.WithinLaws.{taken-within}
use Rattle.again.proofs.MoreLaws.{stopped-with-more}
use Rattle.again.proofs.ResearchLaws.{researched-within, researched-full, taken-researched, researched-sound, researched-horizon}
use Rattle.again.proofs.OwnLaws.{own-unfinished}
use Rattle.again.proofs.SoundLaws.{unsearched-sound, there-goes}
use Rattle.again.specs.Claims.{Kept}
use Rattle.again.proofs.WeekLaws.{closed-kept}
use Rattle.again.proofs.BackLaws.{call-put}

-- ---- a call that a searched load takes is taken by the unsearched one, and the search of that is accepted

record Adds (l : Load) (r : StepResult) (n : Load) : Type 0 where
  answer : r.answer ≡ Ok Taken
  accepted : is_taken (researched l.limit r.load).answer ≡ true
  is : n ≡ (researched l.limit r.load).load

not-both : (a b : Bool) → a ≡ true → (not a && b) ≡ true → ⊥
not-both true b e q = false≢true q
not-both false b e q = false≢true e

-- the same, by its three tests
abbrev pub added_by : Load → StepResult → Bool → Bool → Bool → StepResult
added_by l r b c d = cond b (record { answer = r.answer; load = with_week l r.load.week }) (cond c (record { answer = r.answer; load = l })
    (cond d (record { answer = r.answer; load = (researched l.limit r.load).load })
    (record { answer = (researched l.limit r.load).answer; load = l })))

added : (l : Load) (r : StepResult) → (added_to l r).answer ≡ Ok Taken → Adds l r (added_to l r).load
unfolding added_to again
added l r q = go (leaves_table_of l r) (is_refused r.answer) (is_taken (researched l.limit r.load).answer) refl refl refl q
  where
    go : (b c d : Bool) → leaves_table_of l r ≡ b → is_refused r.answer ≡ c → is_taken (researched l.limit r.load).answer ≡ d
        → (added_by l r b c d).answer ≡ Ok Taken → Adds l r (added_by l r b c d).load
    go true c d e f g q = absurd (not-both (is_taken r.answer) (eqb r.load.table_horizon l.table_horizon) (ap is_taken q) e)
    go false true d e f g q = absurd (true≢false (sym f ∙ ap is_refused q))
    go false false true e f g q = record { answer = q; accepted = g; is = refl }
    go false false false e f g q = absurd (false≢true (sym g ∙ ap is_taken q))

-- ---- the calls of a searched load are in order

pub own-sorted : (l : Load) → researched l.limit (unsearched_of l) ≡ record { answer = Ok Taken; load = l }
    → table_calls (table_of l) ≡ in_order_of (table_calls (table_of l))
unfolding unsearched_of
own-sorted l e =
    let w = taken-researched l.limit (unsearched_of l) (ap (λ (r : StepResult). is_taken r.answer) e) in
    let same : l.calls ≡ sort_first l.call_count l.calls =
    sym (ap (λ (r : StepResult). r.load.calls) e) ∙ ap (λ (r : StepResult). r.load.calls) w.is in
    ap (take l.call_count) same ∙ sorted_front l.call_count l.calls

-- and none clash
pub own-clear : (l : Load) → researched l.limit (unsearched_of l) ≡ record { answer = Ok Taken; load = l }
    → clashes (in_order_of (table_calls (table_of l))) ≡ false
unfolding timetable_of unsearched_of
own-clear l e = (taken-researched l.limit (unsearched_of l) (ap (λ (r : StepResult). is_taken r.answer) e)).clear

kept-horizon : (l : Load) → l.table_horizon ≡ (unsearched_of l).table_horizon
unfolding unsearched_of
kept-horizon l = refl

kept-count : (l : Load) → (unsearched_of l).call_count < 512 → l.call_count < 512
unfolding unsearched_of
kept-count l h = h

-- u is unsearched, c was put into its table, and the search of that found ks and was stopped as l's was; the key of c is taken out again
module _ (l : Load) (s : Sound l) (c : Call) (k : CallKey) (room : l.call_count < 512) (known : key_known k ≡ true)
    (key : has_key k c ≡ true)
    (own : researched l.limit (unsearched_of l) ≡ record { answer = Ok Taken; load = l }) (ks : List Journey) (h m : ℕ) where
  abbrev u : Load
  u = unsearched_of l

  abbrev with-c : Load
  with-c = with_table u (put (table_of u) c)

  abbrev n : Load
  n = with_found with-c ks h m l.limit

  abbrev cs : List Call
  cs = table_calls (table_of l)

  calls-with : take (l.call_count + 1) (set l.calls l.call_count c) ≡ cs ++ (c ∷ [])
  calls-with = put-calls (table_of l) c s.table room

  calls-sorted : table_calls (table_of (unsearched_of n)) ≡ in_order_of (cs ++ (c ∷ []))
  unfolding unsearched_of
  calls-sorted = sorted_front (l.call_count + 1) (set l.calls l.call_count c) ∙ ap in_order_of calls-with

  clear-with : clashes (sorted (timetable_of with-c)) ≡ false → clashes (in_order_of (cs ++ (c ∷ []))) ≡ false
  unfolding timetable_of unsearched_of
  clear-with e = ap (λ (ys : List Call). clashes (in_order_of ys)) (sym calls-with) ∙ e

  goes_back : Sound n → clashes (sorted (timetable_of with-c)) ≡ false
      → taken_out (unsearched_of n) k ≡ record { answer = Ok Taken; load = u }
  unfolding unsearched_of
  goes_back sn e =
      let clear = clear-with e in
      let left : without_last (has_key k) (table_calls (table_of (unsearched_of n))) ≡ table_calls (table_of u) =
      ap (without_last (has_key k)) calls-sorted ∙ sorted-gone cs c clear k key ∙ sym (own-sorted l own) in
      let there : anyb (has_key k) (table_calls (table_of (unsearched_of n))) ≡ true =
      ap (anyb (has_key k)) calls-sorted ∙ sorted-there cs c clear k key in
      there-goes (unsearched_of n) k known there
      ∙ ap (λ (t : Table). record { answer = Ok Taken; load = with_table (unsearched_of n) t })
      (left_back (table_of u) s.table (table_of (unsearched_of n)) k sn.table there left refl refl)

  back : Sound n → clashes (sorted (timetable_of with-c)) ≡ false → withdraw_spec n k ≡ record { answer = Ok Taken; load = l }
  unfolding withdraw_spec again
  back sn e = ap (again n) (goes_back sn e) ∙ ap (searched_as n (Ok Taken)) own

  -- a search of it within a limit is stopped again: there are no fewer joins
  stops-again : (j : ℕ) → clashes (sorted (timetable_of with-c)) ≡ false → finishes_in u j ≡ false → finishes_in with-c j ≡ false
  unfolding finishes_in timetable_of unsearched_of
  stops-again j e f =
      ap (λ (ys : List Call). finished_within j (with_calls (timetable_of (unsearched_of l)) ys)) calls-with
      ∙ stopped-with-more j (timetable_of (unsearched_of l)) c (clear-with e) f

-- the unsearched load with its services closed, and c put in
same-with : (l : Load) (c : Call) → with_table (closed_load (unsearched_of l)) (put (table_of (unsearched_of l)) c)
    ≡ with_table (unsearched_of (closed_load l)) (put (table_of (unsearched_of (closed_load l))) c)
unfolding unsearched_of
same-with l c = refl

-- with c put in, the settings are l's
with-one : (l : Load) (c : Call) → Sound l → stopped l ≡ true
    → (with_table (unsearched_of l) (put (table_of (unsearched_of l)) c)).settings.max_transfers ≤ 1
unfolding unsearched_of
with-one l c s e = s.stopped_change e

-- an accepted search that was stopped as the one before it
record Same (limit : Option ℕ) (m : Load) : Type 0 where
  kept : List Journey
  to : ℕ
  mark : ℕ
  is : researched limit m ≡ record { answer = Ok Taken; load = with_found m kept to mark limit }
  clear : clashes (sorted (timetable_of m)) ≡ false

stopped-same : (limit : Option ℕ) (m : Load) → (is_some limit ≡ true → m.settings.max_transfers ≤ 1)
    → ((n : ℕ) → limit ≡ Some n → clashes (sorted (timetable_of m)) ≡ false → finishes_in m n ≡ false)
    → is_taken (researched limit m).answer ≡ true → Same limit m
stopped-same None m one stays t =
    let q = researched-full m in
    let w = taken-found m (sym (ap (λ (r : StepResult). is_taken r.answer) q) ∙ t) in
    record {
      kept = w.kept;
      to = w.to;
      mark = w.mark;
      is = q ∙ w.is;
      clear = (taken-researched None m t).clear;
    }
stopped-same (Some n) m one stays t =
    let q = researched-within n m (one refl) in
    let w = taken-within m n (sym (ap (λ (r : StepResult). is_taken r.answer) q) ∙ t) in
    let clear = (taken-researched (Some n) m t).clear in
    record {
      kept = w.kept;
      to = w.to;
      mark = w.mark;
      is = q ∙ ap step_of w.is ∙ ap (λ (x : Load). record { answer = Ok Taken; load = x }) (cond-not _ _ (stays n refl clear));
      clear = clear;
    }

pub searched-taken-back : (l : Load) (name : List ℕ) (i : CallInput) → Kept l → l.searched ≡ true → (add_spec_of l name i).answer ≡ Ok Taken
    → (add_spec_of l name i).load.table_horizon ≡ l.table_horizon
    → withdraw_spec (add_spec_of l name i).load (key_of i) ≡ record { answer = Ok Taken; load = closed_load l }
unfolding add_spec_of
searched-taken-back l name i kept d q h =
    let u : Load = unsearched_of l in
    let big : Load = closed_load l in
    let su = unsearched-sound l kept.sound in
    let as_added : add_spec_of l name i ≡ added_to l (call_spec u name i) = cond-by _ _ d in
    let a = added l (call_spec u name i) (sym (ap (λ (r : StepResult). r.answer) as_added) ∙ q) in
    let is : (add_spec_of l name i).load ≡ (researched l.limit (call_spec u name i).load).load =
    ap (λ (r : StepResult). r.load) as_added ∙ a.is in
    let same : (call_spec u name i).load.table_horizon ≡ u.table_horizon =
    sym (researched-horizon l.limit (call_spec u name i).load) ∙ sym (ap (λ (m : Load). m.table_horizon) is) ∙ h ∙ kept-horizon l in
    let w = call-put u name i su a.answer same in
    let k = closed-kept l kept in
    let m : Load = with_table (unsearched_of big) (put (table_of (unsearched_of big)) w.call) in
    let made : (call_spec u name i).load ≡ m = w.is ∙ same-with l w.call in
    let f = own-unfinished big k.sound (k.own d) in
    let g = stopped-same l.limit m (with-one big w.call k.sound)
    (λ j x clear. stops-again big k.sound w.call (key_of i) (kept-count l w.room) w.known-key w.key (k.own d) [] 0 0 j clear (f j x))
    (ap (λ (x : Load). is_taken (researched l.limit x).answer) (sym made) ∙ a.accepted) in
    let n : Load = with_found m g.kept g.to g.mark l.limit in
    let to-n : (researched l.limit (call_spec u name i).load).load ≡ n =
    ap (λ (x : Load). (researched l.limit x).load) made ∙ ap (λ (r : StepResult). r.load) g.is in
    let sn : Sound n = subst Sound to-n (researched-sound l.limit (call_spec u name i).load (fill-keeps-sound u (call name i) su)) in
    ap (λ (x : Load). withdraw_spec x (key_of i)) (is ∙ to-n)
    ∙ back big k.sound w.call (key_of i) (kept-count l w.room) w.known-key w.key (k.own d) g.kept g.to g.mark sn g.clear
