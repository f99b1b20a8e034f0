-- The search's answer is that of the first of its causes that holds, a taken one has none, and a refused load comes back unchanged.
use Rattle.std.specs.Prelude.{Err}
use mathlib.Core.Path.{◌≡◌, refl}
use mathlib.Core.Bool.{Bool, true, false, cond, false≢true}
use mathlib.Core.List.{[], ◌∷◌}
use Rattle.refusal.specs.declared.Refusal.TheVariants.{AlreadySearched, Neighbours, NoRoom}
use Rattle.refusal.specs.First.{First, none, hit, miss, is_refused}
use Rattle.refusal.proofs.FirstLaws.{first_taken}
use Rattle.profile.specs.Figures.{covᶠ, dueᶠ}
use Rattle.profile.specs.Fall.{Ends, up_to, never, fall}
use Rattle.profile.specs.Journeys.{journey_figures}
use Rattle.offers.specs.Order.{clashes}
use Rattle.offers.specs.Offers.{sorted, offers}
use Rattle.offers.specs.Search.{Outcome, clashing, falling, found, answer_of, ends_by_of}
use Rattle.offers.proofs.SearchLaws.{search-by-offers}
use Rattle.load.specs.declared.Load.{Load}
use Rattle.load.specs.declared.StepResult.{StepResult}
use Rattle.search.specs.Timetable.{timetable_of}
use Rattle.search.specs.Search.{outcome_of, settled, search_spec, is_never, would_fall, search_causes, SearchAnswered}

module _ (l : Load) where
  -- 14, then 11
  outcome-first : First (answer_of (outcome_of l)) ((clashes (sorted (timetable_of l)), Err Neighbours) ∷ (would_fall l, Err NoRoom) ∷ [])
  unfolding outcome_of would_fall
  outcome-first =
      rw (search-by-offers (timetable_of l) l.table_horizon l.table_limits)
      (go (clashes (sorted (timetable_of l))) refl
      (fall (covᶠ journey_figures) (dueᶠ journey_figures) 64 3600 l.table_horizon l.table_limits [] (offers (timetable_of l))))
    where
      go : (b : Bool) → clashes (sorted (timetable_of l)) ≡ b → (f : Ends)
          → First (answer_of (cond b clashing (ends_by_of (offers (timetable_of l)) f)))
          ((clashes (sorted (timetable_of l)), Err Neighbours) ∷ (is_never f, Err NoRoom) ∷ [])
      go true e f = hit e
      go false e never = miss e (hit refl)
      go false e (up_to h m) = miss e (miss refl none)

  settled_same : (o : Outcome) → is_refused (answer_of o) ≡ true → settled l o ≡ l
  settled_same clashing e = refl
  settled_same falling e = refl
  settled_same (found ks h m) e = absurd (false≢true e)

  -- what the search returns, by whether the load was searched
  abbrev returned : Bool → StepResult
  returned b = cond {A = StepResult} b (record { answer = Err AlreadySearched; load = l })
      (record { answer = answer_of (outcome_of l); load = settled l (outcome_of l) })

  returned-first : (b : Bool) → l.searched ≡ b → First (returned b).answer (search_causes l)
  returned-first true e = hit e
  returned-first false e = miss e outcome-first

  returned-same : (b : Bool) → is_refused (returned b).answer ≡ true → (returned b).load ≡ l
  returned-same true e = refl
  returned-same false e = settled_same (outcome_of l) e

  pub search-answered : SearchAnswered l
  unfolding search_spec
  search-answered = record {
    first = returned-first l.searched refl;
    taken = first_taken _ _ refl (returned-first l.searched refl);
    unchanged = returned-same l.searched;
  }
