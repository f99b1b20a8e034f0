-- A searched load is the search of its own table: in full, or within the limit at which it was stopped.
use Rattle.refusal.specs.declared.Accepted.TheVariants.{Taken}
use Rattle.std.specs.Prelude.{None, Option, Some, is_some, Ok}
use Prim.Native.Nat.{ℕ, ◌≤◌}
use mathlib.Core.Path.{◌≡◌, refl, sym, ap, subst, ◌∙◌}
use mathlib.Core.Bool.{Bool, true, false, cond}
use mathlib.Core.List.Permᴰ
use mathlib.Core.List.{List, Permᴰ}
use lib.ListN.{length, take}
use Rattle.laws.specs.Lists.{padded}
use Rattle.laws.proofs.Sort.{sort-perm}
use Rattle.laws.proofs.Bools.{cond-not}
use Rattle.laws.proofs.Options.{none-ne-some}
use Rattle.refusal.specs.First.{is_taken}
use Rattle.profile.specs.declared.Journey.{Journey}
use Rattle.profile.specs.Journeys.{no_journey}
use Rattle.calls.specs.declared.Call.{Call}
use Rattle.offers.specs.Order.{earlier, in_order_of, clashes}
use Rattle.offers.specs.Offers.{with_calls, sorted}
use Rattle.offers.specs.Search.{Outcome, found, answer_of, search_of}
use Rattle.offers.proofs.OrderLaws.{sorted_front}
use Rattle.offers.proofs.AnyOrder.{search-in-any-order}
use Rattle.limited.specs.Limited.{joins_within, finished_within, search_within}
use Rattle.limited.proofs.LimitLaws.{within-in-any-order}
use Rattle.load.specs.declared.Load.{Load}
use Rattle.load.specs.declared.StepResult.{StepResult}
use Rattle.load.specs.Load.{Seen, with_seen}
use Rattle.load.specs.Sound.{Sound}
use Rattle.search.specs.Timetable.{timetable_of}
use Rattle.search.specs.Search.{outcome_of, with_found, with_journeys, settled, search_spec}
use Rattle.search.specs.Within.{Answered, outcome_within, finishes_in, ran_within, within_spec, step_of, WithinLeaves}
use Rattle.search.proofs.RunLaws.{search-runs, taken-found}
use Rattle.search.proofs.WithinLaws.{within-runs, taken-within, within-clear, within-taken, finished-is-search}
use Rattle.again.specs.Again.{unsearched_of, researched}
use Rattle.again.specs.Claims.{Own, OwnFinished, OwnStopped}
use Rattle.again.proofs.SortLaws.{sorted-again}
use Rattle.again.proofs.SoundLaws.{unsearched-new}
use Rattle.again.proofs.ResearchLaws.{research-cases, researched-within, researched-full}

module _ (m : Load) (ks : List Journey) (h k : ℕ) (limit : Option ℕ) (s : Sound m) where
  abbrev back : Load
  back = unsearched_of (with_found m ks h k limit)

  abbrev seen : Seen
  seen = record { journeys = padded no_journey 64 ks; count = length ks; horizon = h; limits = k; searched = true; limit = limit }

  -- the same calls in order
  reordered : Permᴰ (take m.call_count m.calls) (in_order_of (take m.call_count m.calls))
  reordered = Permᴰ.symm (sort-perm earlier (take m.call_count m.calls))

  -- the search reads them
  same_outcome : outcome_of m ≡ outcome_of back
  unfolding outcome_of timetable_of unsearched_of
  same_outcome =
      search-in-any-order (timetable_of m) (in_order_of (take m.call_count m.calls)) m.table_horizon m.table_limits reordered
      ∙ ap (λ (cs : List Call). search_of (with_calls (timetable_of m) cs) m.table_horizon m.table_limits)
      (sym (sorted_front m.call_count m.calls))

  same-within : (n : ℕ) → outcome_within m n ≡ outcome_within back n
  unfolding outcome_within timetable_of unsearched_of
  same-within n =
      (within-in-any-order n (timetable_of m) (in_order_of (take m.call_count m.calls)) m.table_horizon m.table_limits reordered).outcome
      ∙ ap (λ (cs : List Call). search_within n (with_calls (timetable_of m) cs) m.table_horizon m.table_limits)
      (sym (sorted_front m.call_count m.calls))

  same-finishes : (n : ℕ) → clashes (sorted (timetable_of m)) ≡ false → finishes_in m n ≡ finishes_in back n
  unfolding finishes_in timetable_of unsearched_of
  same-finishes n clear =
      (within-in-any-order n (timetable_of m) (in_order_of (take m.call_count m.calls)) m.table_horizon m.table_limits reordered).finishes
      clear
      ∙ ap (λ (cs : List Call). finished_within n (with_calls (timetable_of m) cs)) (sym (sorted_front m.call_count m.calls))

  same_load : with_found back ks h k limit ≡ with_found m ks h k limit
  unfolding unsearched_of
  same_load =
      ap (λ (cs : List Call). with_seen m (record {
        calls = cs;
        count = m.call_count;
        horizon = m.table_horizon;
        limits = m.table_limits;
      }) seen)
      (sorted-again m.call_count m.calls s.table.few s.table.long)

same-change : (m : Load) → (unsearched_of m).settings.max_transfers ≡ m.settings.max_transfers
unfolding unsearched_of
same-change m = refl

own-full : (m : Load) (ks : List Journey) (h k : ℕ) → Sound m → outcome_of m ≡ found ks h k
    → researched None (unsearched_of (with_journeys m ks h k)) ≡ record { answer = Ok Taken; load = with_journeys m ks h k }
own-full m ks h k s e =
    let x : Load = unsearched_of (with_journeys m ks h k) in
    researched-full (unsearched_of (with_journeys m ks h k))
    ∙ search-runs (unsearched_of (with_journeys m ks h k)) (unsearched-new (with_journeys m ks h k))
    ∙ ap (λ (o : Outcome). record { answer = answer_of o; load = settled (unsearched_of (with_journeys m ks h k)) o })
    (sym (same_outcome m ks h k None s) ∙ e)
    ∙ ap (λ (l : Load). record { answer = Ok Taken; load = l }) (same_load m ks h k None s)

stopped-is : (m : Load) (n : ℕ) (ks : List Journey) (h k : ℕ) → Sound m → m.settings.max_transfers ≤ 1 → outcome_within m n ≡ found ks h k
    → finishes_in m n ≡ false
    → researched (Some n) (unsearched_of (with_found m ks h k (Some n))) ≡ record { answer = Ok Taken; load = with_found m ks h k (Some n) }
stopped-is m n ks h k s one e f =
    let u : Load = unsearched_of (with_found m ks h k (Some n)) in
    let few : (unsearched_of (with_found m ks h k (Some n))).settings.max_transfers ≤ 1 =
    subst (λ (x : ℕ). x ≤ 1) (sym (same-change (with_found m ks h k (Some n)))) one in
    let clear = within-clear m n ks h k e in
    researched-within n (unsearched_of (with_found m ks h k (Some n))) few
    ∙ ap step_of (within-runs (unsearched_of (with_found m ks h k (Some n))) n (unsearched-new (with_found m ks h k (Some n))) few)
    ∙ ap (λ (o : Outcome). step_of (ran_within (unsearched_of (with_found m ks h k (Some n))) n o))
    (sym (same-within m ks h k (Some n) s n) ∙ e)
    ∙ ap (λ (l : Load). record { answer = Ok Taken; load = l })
    (cond-not _ _ (sym (same-finishes m ks h k (Some n) s n clear) ∙ f) ∙ same_load m ks h k (Some n) s)

-- the load that an accepted search leaves
pub found-own : (m : Load) → Sound m → is_taken (search_spec m).answer ≡ true → Own (search_spec m).load
found-own m s t d =
    let w = taken-found m t in
    subst (λ (l : Load). researched l.limit (unsearched_of l) ≡ record { answer = Ok Taken; load = l })
    (sym (ap (λ (r : StepResult). r.load) w.is))
    (own-full m w.kept w.to w.mark s w.outcome)

stopped-own : (m : Load) (n : ℕ) → Sound m → finishes_in m n ≡ false → is_taken (within_spec m n).answer ≡ true → Own (within_spec m n).load
stopped-own m n s f t d =
    let w = taken-within m n t in
    subst (λ (l : Load). researched l.limit (unsearched_of l) ≡ record { answer = Ok Taken; load = l })
    (sym (ap (λ (r : Answered). r.load) w.is ∙ cond-not _ _ f))
    (stopped-is m n w.kept w.to w.mark s w.one w.outcome f)

pub within-own : (m : Load) (n : ℕ) → Sound m → is_taken (within_spec m n).answer ≡ true → Own (within_spec m n).load
within-own m n s t = go (finishes_in m n) refl
  where
    go : (c : Bool) → finishes_in m n ≡ c → Own (within_spec m n).load
    go true e =
        let q = finished-is-search m n (taken-within m n t).one e in
        subst Own (sym (ap (λ (r : StepResult). r.load) q)) (found-own m s (sym (ap (λ (r : StepResult). is_taken r.answer) q) ∙ t))
    go false e = stopped-own m n s e t

pub researched-own : (limit : Option ℕ) (m : Load) → Sound m → is_taken (researched limit m).answer ≡ true → Own (researched limit m).load
researched-own limit m s = research-cases limit m (λ r. is_taken r.answer ≡ true → Own r.load) (λ n w. within-own m n s) (found-own m s)

-- ---- what that says of a finished load, and of one that was stopped

abbrev Is : Load → Type 0
Is l = researched l.limit (unsearched_of l) ≡ record { answer = Ok Taken; load = l }

module _ (l : Load) (s : Sound l) (o : Is l) (n : ℕ) (e : l.limit ≡ Some n) where
  own-within : step_of (within_spec (unsearched_of l) n) ≡ record { answer = Ok Taken; load = l }
  own-within =
      let few : (unsearched_of l).settings.max_transfers ≤ 1 =
      subst (λ (x : ℕ). x ≤ 1) (sym (same-change l)) (s.stopped_change (ap is_some e)) in
      sym (researched-within n (unsearched_of l) few) ∙ ap (λ (x : Option ℕ). researched x (unsearched_of l)) (sym e) ∙ o

  own-leaves : WithinLeaves (unsearched_of l) n
  own-leaves = within-taken (unsearched_of l) n (ap (λ (r : StepResult). r.answer) own-within)

  pub own-unfinished : finishes_in (unsearched_of l) n ≡ false
  own-unfinished = go (finishes_in (unsearched_of l) n) refl (sym own-leaves.holds ∙ ap (λ (r : StepResult). r.load.limit) own-within ∙ e)
    where
      go : (b : Bool) → finishes_in (unsearched_of l) n ≡ b → cond b None (Some n) ≡ Some n → finishes_in (unsearched_of l) n ≡ false
      go true q z = absurd (none-ne-some n z)
      go false q z = q

same-timetable : (l : Load) → timetable_of (unsearched_of l) ≡ timetable_of l
unfolding timetable_of unsearched_of
same-timetable l = refl

same-finish : (l : Load) (n : ℕ) → finishes_in (unsearched_of l) n ≡ finishes_in l n
unfolding finishes_in
same-finish l n = ap (finished_within n) (same-timetable l)

pub own-finished : OwnFinished
own-finished l k d e = sym (researched-full (unsearched_of l)) ∙ ap (λ (x : Option ℕ). researched x (unsearched_of l)) (sym e) ∙ k.own d

pub own-stopped : OwnStopped
own-stopped l k n e =
    let o = k.own (k.sound.stopped_search (ap is_some e)) in
    let q = own-within l k.sound o n e in
    let w = own-leaves l k.sound o n e in
    let f = own-unfinished l k.sound o n e in
    record {
      is = λ i. record {
        answer = (q i).answer;
        load = (q i).load;
        joins = (w.counts ∙ ap (joins_within n) (same-timetable l)) i;
        finished = (w.says ∙ f) i;
      };
      unfinished = sym (same-finish l n) ∙ f;
    }
