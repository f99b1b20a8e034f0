-- A search takes no notice of the stored order: the calls of an accepted search have one order alone.
use Rattle.std.specs.Prelude.{Err, None, Option, Some}
use Prim.Native.Nat.{ℕ}
use mathlib.Core.Path.{◌≡◌, refl, sym, ap, subst, ◌∙◌}
use mathlib.Core.Bool.{Bool, true, false, cond, true≢false}
use mathlib.Core.List.{List, ◌++◌, Permᴰ}
use lib.Dec.{ltb}
use lib.ListN.{take, drop}
use Rattle.refusal.specs.declared.Refusal.TheVariants.{SettingsRange, AlreadySearched}
use Rattle.refusal.specs.First.{is_refused}
use Rattle.calls.specs.declared.Call.{Call}
use Rattle.profile.specs.declared.Journey.{Journey}
use Rattle.offers.specs.Order.{in_order_of, clashes}
use Rattle.offers.specs.Offers.{with_calls, sorted}
use Rattle.offers.specs.Search.{Outcome, clashing, falling, found, answer_of}
use Rattle.offers.proofs.OrderLaws.{accepted-any-order}
use Rattle.offers.proofs.SearchLaws.{search-found}
use Rattle.offers.proofs.AnyOrder.{search-in-any-order}
use Rattle.limited.proofs.LimitLaws.{within-in-any-order}
use Rattle.load.specs.declared.Load.{Load}
use Rattle.load.specs.declared.StepResult.{StepResult}
use Rattle.load.specs.Load.{with_seen}
use Rattle.search.specs.Timetable.{timetable_of}
use Rattle.search.specs.Search.{outcome_of, with_found, with_journeys, settled, search_spec}
use Rattle.search.specs.Within.{Answered, outcome_within, finishes_in, sent_back_of, ran_within, within_spec, step_of}
use Rattle.search.proofs.RunLaws.{search-again, search-runs}
use Rattle.search.proofs.AnswerLaws.{search-answered}
use Rattle.search.proofs.WithinLaws.{within-answered, within-clear}
use Rattle.any_order.specs.Alike.{with_stored, Alike, SearchOrderUnread, LimitedOrderUnread}

module _ (a : Load) (cs : List Call) where
  abbrev n : ℕ
  n = a.call_count

  abbrev other : Load
  other = with_stored a cs

  -- what a search reads of the other load: the same but for the calls
  pub other-timetable : timetable_of other ≡ with_calls (timetable_of a) (take n cs)
  unfolding timetable_of
  other-timetable = refl

  module _ (p : Permᴰ (take n a.calls) (take n cs)) (u : drop n a.calls ≡ drop n cs) where
    same_outcome : outcome_of a ≡ outcome_of other
    unfolding outcome_of timetable_of
    same_outcome = search-in-any-order (timetable_of a) (take n cs) a.table_horizon a.table_limits p

    -- accepted calls have one order
    same-sorted : (ks : List Journey) (h m : ℕ) → outcome_of a ≡ found ks h m → in_order_of (take n a.calls) ≡ in_order_of (take n cs)
    unfolding outcome_of timetable_of
    same-sorted ks h m e = accepted-any-order (take n a.calls) (take n cs) p
        (search-found (timetable_of a) a.table_horizon a.table_limits h m ks e).0

    abbrev ran : Load → Outcome → StepResult
    ran l o = record { answer = answer_of o; load = settled l o }

    -- the loads with what both found, their calls in one order
    found-load : (ks : List Journey) (h m : ℕ) (limit : Option ℕ) → in_order_of (take n a.calls) ≡ in_order_of (take n cs)
        → with_found a ks h m limit ≡ with_found other ks h m limit
    found-load ks h m limit e = λ k. with_seen a
        (record { calls = e k ++ u k; count = n; horizon = a.table_horizon; limits = a.table_limits })
        (record {
          journeys = (with_found a ks h m limit).journeys;
          count = (with_found a ks h m limit).journey_count;
          horizon = h;
          limits = m;
          searched = true;
          limit = limit;
        })

    -- of loads not searched before
    same_load : (o : Outcome) → outcome_of a ≡ o → is_refused (answer_of o) ≡ false → settled a o ≡ settled other o
    same_load clashing e q = absurd (true≢false q)
    same_load falling e q = absurd (true≢false q)
    same_load (found ks h m) e q = found-load ks h m None (same-sorted ks h m e)

    alike : Alike search_spec a other
    alike = record {
      answer = answer a.searched refl;
      refused = λ e. (
        (search-answered a).unchanged e,
        (search-answered other).unchanged (ap is_refused (sym (answer a.searched refl)) ∙ e),
      );
      accepted = λ e. accepted a.searched refl e;
    }
      where
        answer : (b : Bool) → a.searched ≡ b → (search_spec a).answer ≡ (search_spec other).answer
        answer true e = ap (λ (r : StepResult). r.answer) (search-again a e)
            ∙ sym (ap (λ (r : StepResult). r.answer) (search-again other e))
        answer false e =
            ap (λ (r : StepResult). r.answer) (search-runs a e) ∙ ap answer_of same_outcome
            ∙ sym (ap (λ (r : StepResult). r.answer) (search-runs other e))

        accepted : (b : Bool) → a.searched ≡ b → is_refused (search_spec a).answer ≡ false → (search_spec a).load ≡ (search_spec other).load
        accepted true e q = absurd (true≢false (sym (ap (λ (r : StepResult). is_refused r.answer) (search-again a e)) ∙ q))
        accepted false e q =
            ap (λ (r : StepResult). r.load) (search-runs a e)
            ∙ same_load (outcome_of a) refl (sym (ap (λ (r : StepResult). is_refused r.answer) (search-runs a e)) ∙ q)
            ∙ ap (settled other) same_outcome
            ∙ sym (ap (λ (r : StepResult). r.load) (search-runs other e))

    -- ---- within the limit j

    module _ (j : ℕ) where
      same-within : outcome_within a j ≡ outcome_within other j
      unfolding outcome_within timetable_of
      same-within = (within-in-any-order j (timetable_of a) (take n cs) a.table_horizon a.table_limits p).outcome

      same-finishes : clashes (sorted (timetable_of a)) ≡ false → finishes_in a j ≡ finishes_in other j
      unfolding finishes_in timetable_of
      same-finishes clear = (within-in-any-order j (timetable_of a) (take n cs) a.table_horizon a.table_limits p).finishes clear

      one-order : clashes (sorted (timetable_of a)) ≡ false → in_order_of (take n a.calls) ≡ in_order_of (take n cs)
      unfolding timetable_of
      one-order clear = accepted-any-order (take n a.calls) (take n cs) p clear

      either-load : (ks : List Journey) (h m : ℕ) (f : Bool) → in_order_of (take n a.calls) ≡ in_order_of (take n cs)
          → cond f (with_journeys a ks h m) (with_found a ks h m (Some j))
          ≡ cond f (with_journeys other ks h m) (with_found other ks h m (Some j))
      either-load ks h m true e = found-load ks h m None e
      either-load ks h m false e = found-load ks h m (Some j) e

      -- by its tests, of loads with one outcome
      abbrev by : Load → Bool → Bool → Outcome → Answered
      by l b c o = cond b (sent_back_of l (Err AlreadySearched)) (cond c (sent_back_of l (Err SettingsRange)) (ran_within l j o))

      abbrev wide : Bool
      wide = ltb 1 a.settings.max_transfers

      of-first : within_spec a j ≡ by a a.searched wide (outcome_within a j)
      unfolding within_spec
      of-first = refl

      of-second : within_spec other j ≡ by other a.searched wide (outcome_within a j)
      unfolding within_spec
      of-second = ap (by other a.searched wide) (sym same-within)

      by_answer : (b c : Bool) (o : Outcome) → (by a b c o).answer ≡ (by other b c o).answer
      by_answer true c o = refl
      by_answer false true o = refl
      by_answer false false clashing = refl
      by_answer false false falling = refl
      by_answer false false (found ks h m) = refl

      by-load : (b c : Bool) (o : Outcome) → outcome_within a j ≡ o → is_refused (by a b c o).answer ≡ false
          → (by a b c o).load ≡ (by other b c o).load
      by-load true c o e q = absurd (true≢false q)
      by-load false true o e q = absurd (true≢false q)
      by-load false false clashing e q = absurd (true≢false q)
      by-load false false falling e q = absurd (true≢false q)
      by-load false false (found ks h m) e q =
          let clear = within-clear a j ks h m e in
          either-load ks h m (finishes_in a j) (one-order clear)
          ∙ ap (λ (f : Bool). cond f (with_journeys other ks h m) (with_found other ks h m (Some j))) (same-finishes clear)

      limited-alike : Alike (λ l. step_of (within_spec l j)) a other
      limited-alike =
          let same : (within_spec a j).answer ≡ (within_spec other j).answer =
          ap (λ (w : Answered). w.answer) of-first ∙ by_answer a.searched wide (outcome_within a j)
          ∙ sym (ap (λ (w : Answered). w.answer) of-second) in
          record {
            answer = same;
            refused = λ e. ((within-answered a j).unchanged e, (within-answered other j).unchanged (ap is_refused (sym same) ∙ e));
            accepted = λ e.
                ap (λ (w : Answered). w.load) of-first
                ∙ by-load a.searched wide (outcome_within a j) refl (sym (ap (λ (w : Answered). is_refused w.answer) of-first) ∙ e)
                ∙ sym (ap (λ (w : Answered). w.load) of-second);
          }

pub limited-order-unread : LimitedOrderUnread
limited-order-unread n a b o = subst (Alike (λ l. step_of (within_spec l n)) a) (sym o.others) (limited-alike a b.calls o.stored o.unused n)

pub search-order-unread : SearchOrderUnread
search-order-unread a b o = subst (Alike search_spec a) (sym o.others) (alike a b.calls o.stored o.unused)
