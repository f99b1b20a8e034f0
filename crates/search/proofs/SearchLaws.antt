-- The search by its tests: what is returned is what the definition says, from the state after every offer.
use Rattle.refusal.specs.declared.Accepted.TheVariants.{Taken}
use Rattle.std.specs.Prelude.{None, Err, Ok}
use Prim.Native.Nat.{ℕ, ◌<◌, min}
use mathlib.Core.Path.{◌≡◌, refl, sym, ap, ◌∙◌}
use mathlib.Core.Bool.{Bool, true, false, not, true≢false}
use mathlib.Core.List.{List, map}
use lib.ListN.{length, take, get_or}
use Rattle.laws.proofs.Bools.{of-not, cond-by, cond-not}
use Rattle.refusal.specs.declared.Refusal.TheVariants.{AlreadySearched, Neighbours, NoRoom}
use Rattle.calls.specs.declared.Call.{Call}
use Rattle.profile.specs.Found.{Row}
use Rattle.profile.specs.Best.{ordered}
use Rattle.profile.specs.Journeys.{journey_figures}
use Rattle.profile.specs.Kept.{SearchState, going, refused, map_st}
use Rattle.search_state.specs.View.{view, open_of}
use Rattle.search_state.proofs.ViewLaws.{view-is-refused}
use Rattle.offers.specs.Order.{sort_first, clashes}
use Rattle.offers.specs.Places.{journey_at}
use Rattle.offers.specs.Search.{Outcome, clashing, falling, found, answer_of, found_by, search_of}
use Rattle.load.specs.declared.Load.{Load}
use Rattle.load.specs.declared.StepResult.{StepResult}
use Rattle.search.specs.Timetable.{timetable_of}
use Rattle.search.specs.Rows.{sheet_from, joins_from, row_offers}
use Rattle.search.specs.Offered.{placed, offered_of, found_in}
use Rattle.search.specs.Search.{outcome_of, settled, search_spec}
use Rattle.search.proofs.RowsLaws.{search-by-rows}
use Rattle.search.proofs.SmallLaws.{AllSmall, rows-small}
use Rattle.search.proofs.FoundLaws.{in-front, in-places, kept_small, holds-found}

-- ---- what is returned, by the outcome

abbrev again : Load → StepResult
again l = record { answer = Err AlreadySearched; load = l }

abbrev ran : Load → Outcome → StepResult
ran l o = record { answer = answer_of o; load = settled l o }

pub returned-again : (l : Load) → l.searched ≡ true → again l ≡ search_spec l
unfolding search_spec
returned-again l e = sym (cond-by (again l) (ran l (outcome_of l)) e)

returned : (l : Load) (o : Outcome) → l.searched ≡ false → outcome_of l ≡ o → ran l o ≡ search_spec l
unfolding search_spec
returned l o u e = ap (ran l) (sym e) ∙ sym (cond-not (again l) (ran l (outcome_of l)) u)

module _ (l : Load) (cs : List Call) (order : cs ≡ sort_first l.call_count l.calls) (long : length cs ≡ 512) (u : l.searched ≡ false) where
  clash-outcome : clashes (take l.call_count cs) ≡ true → outcome_of l ≡ clashing
  unfolding outcome_of search_of
  clash-outcome e = cond-by _ _ (ap clashes (sym (in-front l cs order long)) ∙ e)

  -- 14
  pub returned-clash : (b : Bool) → b ≡ clashes (take l.call_count cs) → b ≡ true
      → ◌≡◌ {A = StepResult} (record { answer = Err Neighbours; load = l }) (search_spec l)
  returned-clash b e q = returned l clashing u (clash-outcome (sym e ∙ q))

  -- no neighbours clash: the outcome is read off the state
  module _ (b : Bool) (e : b ≡ clashes (take l.call_count cs)) (q : b ≡ false) where
    outcome-by : outcome_of l ≡ found_by (map_st (journey_at (placed cs)) (offered_of l cs))
    unfolding outcome_of search_of offered_of
    outcome-by =
        cond-not _ _ (ap clashes (sym (in-front l cs order long)) ∙ sym e ∙ q)
        ∙ ap found_by (search-by-rows (timetable_of l) (placed cs) (min l.call_count 512) l.table_horizon l.table_limits
        (in-places l cs order long))

    -- 11
    pub returned-falling : (st : List ℕ) (r : Bool) → view st ≡ offered_of l cs → r ≡ not (open_of st) → r ≡ true
        → ◌≡◌ {A = StepResult} (record { answer = Err NoRoom; load = l }) (search_spec l)
    returned-falling st r v er tr =
        returned l falling u (outcome-by ∙ ap (λ (s : SearchState Row). found_by (map_st (journey_at (placed cs)) s))
        (sym v ∙ (view-is-refused st).1 (of-not (open_of st) (sym er ∙ tr))))

    module _ (walks : (o : ℕ) → get_or l.settings.origin_walks o 0 < 256) (st : List ℕ) (v : view st ≡ offered_of l cs) where
      abbrev next : Load
      next = found_in l cs st None

      small : (ks : List Row) (h m : ℕ) → view st ≡ going ks h m → AllSmall ks
      unfolding offered_of row_offers sheet_from timetable_of
      small ks h m g =
          kept_small (row_offers (timetable_of l) (placed cs) (min l.call_count 512)) ks l.table_horizon l.table_limits h m
          (rows-small (sheet_from (timetable_of l) (placed cs)) (joins_from (timetable_of l) (placed cs)) l.settings.max_transfers
          (min l.call_count 512) (λ o lo. walks o)) (sym v ∙ g)

      going-returned : (ks : List Row) (h m : ℕ) → view st ≡ going ks h m
          → ◌≡◌ {A = StepResult} (record { answer = Ok Taken; load = next }) (search_spec l)
      going-returned ks h m g =
          ap {B = StepResult} (λ (x : Load). record { answer = Ok Taken; load = x })
          (holds-found l cs order st ks h m g (small ks h m g) None)
          ∙ returned l (found (ordered journey_figures (map (journey_at (placed cs)) ks)) h m) u
          (outcome-by ∙ ap (λ (s : SearchState Row). found_by (map_st (journey_at (placed cs)) s)) (sym v ∙ g))

      pub returned-found : (r : Bool) → r ≡ not (open_of st) → r ≡ false
          → ◌≡◌ {A = StepResult} (record { answer = Ok Taken; load = next }) (search_spec l)
      returned-found r er fr = go (view st) refl
        where
          go : (s : SearchState Row) → view st ≡ s → ◌≡◌ {A = StepResult} (record { answer = Ok Taken; load = next }) (search_spec l)
          go refused e = absurd (true≢false (sym (ap not ((view-is-refused st).0 e)) ∙ sym er ∙ fr))
          go (going ks h m) e = going-returned ks h m e
