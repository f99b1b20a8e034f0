-- The search within a limit by its tests: what is returned is what the definition says, from the state after the offers before the stop.
use Rattle.refusal.specs.declared.Accepted.TheVariants.{Taken}
use Rattle.std.specs.Prelude.{None, Option, Some, Err, Ok}
use Rattle.std.specs.Bool.{then_some}
use Prim.Native.Nat.{ℕ, ◌≤◌, ◌<◌, min}
use mathlib.Core.Path.{◌≡◌, refl, sym, ap, subst, ◌∙◌}
use mathlib.Core.Bool.{Bool, true, false, not, cond, true≢false}
use mathlib.Core.List.Memᴰ
use mathlib.Core.List.{List, [], ◌++◌, map, Memᴰ}
use native.Mathlib.Omega.{arith}
use borrow.Author.Tests.{lt-ltb, le-ltb}
use lib.ListN.{length, take, get_or}
use Rattle.laws.specs.Lists.{span}
use Rattle.laws.proofs.Bools.{of-not, cond-by, cond-not}
use Rattle.refusal.specs.declared.Refusal.TheVariants.{SettingsRange, AlreadySearched, Neighbours, NoRoom}
use Rattle.calls.specs.declared.Call.{Call}
use Rattle.profile.specs.Found.{Row}
use Rattle.profile.specs.declared.Journey.{Journey}
use Rattle.profile.specs.Best.{ordered}
use Rattle.profile.specs.Journeys.{journey_figures, row_figures}
use Rattle.profile.specs.Kept.{SearchState, going, refused, searched, map_st}
use Rattle.search_state.specs.View.{view, open_of}
use Rattle.search_state.proofs.ViewLaws.{view-is-refused}
use Rattle.candidate.proofs.OfferLaws.{offers-search}
use Rattle.offers.specs.Order.{sort_first, clashes}
use Rattle.offers.specs.Places.{journey_at}
use Rattle.offers.specs.Search.{Outcome, clashing, falling, found, found_by}
use Rattle.counted.specs.Events.{Event, offers_of, up_to, past}
use Rattle.counted.specs.Joins.{events}
use Rattle.counted.proofs.EventLaws.{stops, offers-append}
use Rattle.counted.proofs.JoinLaws.{offers-of-events}
use Rattle.limited.specs.Limited.{joins_within, search_within}
use Rattle.rides.specs.Rows.{Sheet, Joins, direct_by, change_by, network_of, rows}
use Rattle.rides.specs.Offered.{offer_all}
use Rattle.rides.proofs.RouteLaws.{rows-up-to-one}
use Rattle.limited_rides.specs.declared.Tested.{Tested}
use Rattle.limited_rides.specs.Runs.{RowEvent}
use Rattle.limited_rides.specs.Within.{Within}
use Rattle.load.specs.declared.Load.{Load}
use Rattle.search.specs.Timetable.{timetable_of}
use Rattle.search.specs.Rows.{sheet_from, joins_from}
use Rattle.search.specs.Events.{sheet_events, place_events}
use Rattle.search.specs.Offered.{placed, found_in}
use Rattle.search.specs.Search.{with_found}
use Rattle.search.specs.Within.{Answered, outcome_within, finishes_in, within_found, sent_back_of, ran_within, within_spec}
use Rattle.search.proofs.SmallLaws.{AllSmall, rows-small}
use Rattle.search.proofs.EventsLaws.{limit-by-rows}
use Rattle.search.proofs.FoundLaws.{in-front, in-places, kept_small, holds-found}

-- ---- what is offered before a stop is offered

up-to-in : {J A : Type 0} (n : ℕ) (es : List (Event J A)) {a : A} → Memᴰ a (offers_of (up_to n es)) → Memᴰ a (offers_of es)
up-to-in {J} {A} n es {a} m =
    let q : offers_of (up_to n es) ++ offers_of (past n es) ≡ offers_of es =
    sym (offers-append (up_to n es) (past n es)) ∙ ap (λ (xs : List (Event J A)). offers_of xs) (sym (stops n es)) in
    subst (Memᴰ a) q (Memᴰ.append_left (offers_of (past n es)) m)

within-small : (s : Sheet) (joins : Joins) (depth n limit : ℕ) → depth ≤ 1 → ((o : ℕ) → o < 4 → s.origin_walk o < 256)
    → AllSmall (offers_of (up_to limit (sheet_events s joins depth n)))
unfolding sheet_events rows
within-small s joins depth n limit one walks r m =
    rows-small s joins depth n walks r
    (subst (Memᴰ r) (offers-of-events (network_of s joins) (direct_by s) (change_by s) depth (span 0 n)
    ∙ sym (rows-up-to-one s joins depth n one))
    (up-to-in limit (events (network_of s joins) (direct_by s) (change_by s) depth (span 0 n)) m))

-- ---- what is returned

module _ (l : Load) (n : ℕ) where
  -- 15, 1
  pub within-again : l.searched ≡ true → sent_back_of l (Err AlreadySearched) ≡ within_spec l n
  unfolding within_spec
  within-again e = sym (cond-by _ _ e)

  pub within-settings : l.searched ≡ false → 1 < l.settings.max_transfers → sent_back_of l (Err SettingsRange) ≡ within_spec l n
  unfolding within_spec
  within-settings u h = sym (cond-not _ _ u ∙ cond-by _ _ (lt-ltb 1 l.settings.max_transfers h))

module _ (l : Load) (n : ℕ) (u : l.searched ≡ false) (one : l.settings.max_transfers ≤ 1) (cs : List Call)
    (order : cs ≡ sort_first l.call_count l.calls)
    (long : length cs ≡ 512) where
  ran : (o : Outcome) → outcome_within l n ≡ o → ran_within l n o ≡ within_spec l n
  unfolding within_spec
  ran o e = ap (ran_within l n) (sym e) ∙ sym (cond-not _ _ u ∙ cond-not _ _ (le-ltb 1 l.settings.max_transfers one))

  clash-outcome : clashes (take l.call_count cs) ≡ true → outcome_within l n ≡ clashing
  unfolding outcome_within search_within
  clash-outcome e = cond-by _ _ (ap clashes (sym (in-front l cs order long)) ∙ e)

  -- 14
  pub within-clash : (b : Bool) → b ≡ clashes (take l.call_count cs) → b ≡ true → sent_back_of l (Err Neighbours) ≡ within_spec l n
  within-clash b e q = ran clashing (clash-outcome (sym e ∙ q))

  module _ (b : Bool) (e : b ≡ clashes (take l.call_count cs)) (q : b ≡ false) where
    abbrev es : List RowEvent
    es = place_events (timetable_of l) (placed cs) (min l.call_count 512)

    abbrev kept : SearchState Row
    kept = searched row_figures 64 3600 l.table_horizon l.table_limits (offers_of (up_to n es))

    outcome-by : outcome_within l n ≡ found_by (map_st (journey_at (placed cs)) kept)
    unfolding outcome_within search_within
    outcome-by =
        cond-not _ _ (ap clashes (sym (in-front l cs order long)) ∙ sym e ∙ q)
        ∙ ap found_by (limit-by-rows n (timetable_of l) (placed cs) (min l.call_count 512) l.table_horizon l.table_limits
        (in-places l cs order long)).kept

    module _ {st st' : List ℕ} {r : Tested} (e0 : view st ≡ going [] l.table_horizon l.table_limits) (w : Within st st' n es r) where
      ended : view st' ≡ kept
      unfolding offer_all
      ended = w.state ∙ ap (λ (s : SearchState Row). offer_all s (offers_of (up_to n es))) e0
          ∙ offers-search l.table_horizon l.table_limits (offers_of (up_to n es))

      outcome-of : (s : SearchState Row) → view st' ≡ s → outcome_within l n ≡ found_by (map_st (journey_at (placed cs)) s)
      outcome-of s v = outcome-by ∙ ap (λ (x : SearchState Row). found_by (map_st (journey_at (placed cs)) x)) (sym ended ∙ v)

      -- 11
      pub within-falling : (x : Bool) → x ≡ not (open_of st') → x ≡ true → sent_back_of l (Err NoRoom) ≡ within_spec l n
      within-falling x ex tx = ran falling (outcome-of refused ((view-is-refused st').1 (of-not (open_of st') (sym ex ∙ tx))))

      small : ((o : ℕ) → get_or l.settings.origin_walks o 0 < 256) → (ks : List Row) (h m : ℕ) → view st' ≡ going ks h m → AllSmall ks
      unfolding place_events sheet_from timetable_of
      small walks ks h m g =
          kept_small (offers_of (up_to n es)) ks l.table_horizon l.table_limits h m
          (within-small (sheet_from (timetable_of l) (placed cs)) (joins_from (timetable_of l) (placed cs)) l.settings.max_transfers
          (min l.call_count 512) n one (λ o lo. walks o)) (sym ended ∙ g)

      module _ (ks : List Row) (h m : ℕ) (g : view st' ≡ going ks h m) where
        not_refused : view st' ≡ refused → ⊥
        not_refused x = let y : going ks h m ≡ refused = sym g ∙ x in let z : ◌≡◌ {A = ℕ} 0 1 = cc in omega arith

        all : r.finished ≡ finishes_in l n
        unfolding finishes_in
        all = w.all not_refused ∙ sym (limit-by-rows n (timetable_of l) (placed cs) (min l.call_count 512) l.table_horizon l.table_limits
            (in-places l cs order long)).all

        joins : r.joins ≡ joins_within n (timetable_of l)
        joins = w.joins not_refused ∙ sym (limit-by-rows n (timetable_of l) (placed cs)
            (min l.call_count 512) l.table_horizon l.table_limits (in-places l cs order long)).joins

      module _ (walks : (o : ℕ) → get_or l.settings.origin_walks o 0 < 256) (x : Option ℕ) (ex : x ≡ then_some (not r.finished) n) where
        abbrev next : Answered
        next = record { answer = Ok Taken; load = found_in l cs st' x; joins = r.joins; finished = r.finished }

        either : (ks : List Journey) (h m : ℕ) (b : Bool)
            → with_found l ks h m (then_some (not b) n) ≡ cond b (with_found l ks h m None) (with_found l ks h m (Some n))
        either ks h m true = refl
        either ks h m false = refl

        going-returned : (ks : List Row) (h m : ℕ) → view st' ≡ going ks h m → next ≡ within_spec l n
        going-returned ks h m g =
            let js' = ordered journey_figures (map (journey_at (placed cs)) ks) in
            let fin = all ks h m g in
            let loads : found_in l cs st' x ≡ within_found l n js' h m =
            holds-found l cs order st' ks h m g (small walks ks h m g) x
            ∙ ap (with_found l js' h m) (ex ∙ ap (λ (b : Bool). then_some (not b) n) fin) ∙ either js' h m (finishes_in l n) in
            (λ i. record { answer = Ok Taken; load = loads i; joins = joins ks h m g i; finished = fin i })
            ∙ ran (found js' h m) (outcome-of (going ks h m) g)

        pub within-found : (y : Bool) → y ≡ not (open_of st') → y ≡ false → next ≡ within_spec l n
        within-found y ey fy = go (view st') refl
          where
            go : (v : SearchState Row) → view st' ≡ v → next ≡ within_spec l n
            go refused v = absurd (true≢false (sym (ap not ((view-is-refused st').0 v)) ∙ sym ey ∙ fy))
            go (going ks h m) v = going-returned ks h m v
