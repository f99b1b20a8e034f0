-- A search of a load that is not searched, in full or within a limit: what it leaves holds what was taken.
use Rattle.refusal.specs.declared.Accepted.TheVariants.{Taken}
use Rattle.std.specs.Prelude.{None, Option, Some, Err, Ok}
use Prim.Native.Nat.{ℕ, ◌≤◌}
use mathlib.Core.Path.{◌≡◌, refl, sym, ap, subst, ◌∙◌}
use mathlib.Core.Bool.{Bool, true, false, true≢false}
use mathlib.Core.List.{List}
use Rattle.refusal.specs.declared.Refusal.{Refusal}
use Rattle.refusal.specs.declared.Refusal.TheVariants.{SettingsRange, AlreadySearched, Neighbours, NoRoom}
use Rattle.refusal.specs.First.{is_taken, Answer}
use Rattle.settings.specs.declared.Settings.{Settings}
use Rattle.offers.specs.Admitted.{Clear}
use Rattle.offers.specs.Search.{Outcome, clashing, falling, found}
use Rattle.limited.specs.Limited.{offers_within, joins_within, finished_within}
use Rattle.load.specs.declared.Load.{Load}
use Rattle.load.specs.declared.StepResult.{StepResult}
use Rattle.load.specs.FillStep.{FillStep}
use Rattle.search.specs.Timetable.{timetable_of}
use Rattle.search.specs.Search.{search_spec}
use Rattle.search.specs.Within.{finishes_in, ran_within, within_spec, step_of}
use Rattle.search.proofs.WithinLaws.{taken-within, within-clear, within-cases}
use Rattle.again.specs.Again.{unsearched_of, researched}
use Rattle.again.proofs.ResearchLaws.{researched-within, researched-full, taken-researched, untaken-researched}
use Rattle.steps.specs.Steps.{Step, search, limited}
use Rattle.comparison.specs.Taken.{State, done}
use Rattle.comparison.specs.Feeds.{feed_of}
use Rattle.comparison.specs.Events.{Within}
use Rattle.comparison.specs.Runs.{After, sent_back, a_search, a_limited}
use Rattle.comparison.proofs.SettingLaws.{Opened}
use Rattle.comparison.proofs.StartLaws.{Start, state_at}
use Rattle.comparison.proofs.AsideLaws.{beside_same, apart}
use Rattle.comparison.proofs.SearchingLaws.{within-here, untaken-refused, found-searched, found-state, limit-within, limit-full, limited-to}
use Rattle.comparison.proofs.SearchedLaws.{searched-start}

-- the step x, answered a, leaves m, and nothing more taken
pub record Searching (s : Settings) (l : Load) (fs : List FillStep) (x : Step) (a : Answer) (m : Load) : Type 0 where
  pub after : After s (state_at l fs) x a (state_at m fs)
  pub new : m.searched ≡ false → Start s m fs
  pub done : m.searched ≡ true → Start s (unsearched_of m) (apart fs)

module _ (s : Settings) (o : Opened s) (l : Load) (fs : List FillStep) (w : Start s l fs) where
  abbrev t : State
  t = state_at l fs

  abbrev Found : Step → StepResult → Type 0
  Found x r = Searching s l fs x r.answer r.load

  -- sent back
  back : (x : Step) (r : Refusal) → Searching s l fs x (Err r) l
  back x r = record { after = sent_back; new = λ d. w; done = λ d. absurd (true≢false (sym d ∙ w.fresh)) }

  -- taken
  taken : (x : Step) (limit : Option ℕ) (e : is_taken (researched limit l).answer ≡ true)
      → After s t x (Ok Taken) (done (researched limit l).load.limit t) → Found x (researched limit l)
  taken x limit e v = record {
    after = subst (λ (r : StepResult). After s t x r.answer (state_at (researched limit l).load fs)) (sym (taken-researched limit l e).is)
        (subst (After s t x (Ok Taken)) (sym (found-state limit l e fs)) v);
    new = λ d. absurd (true≢false (sym (found-searched limit l e) ∙ d));
    done = λ d. searched-start s l fs fs w (beside_same fs) w.held.days refl limit e;
  }

  pub search-so : Searching s l fs search (search_spec l).answer (search_spec l).load
  search-so = subst (Found search) (researched-full l) (go (is_taken (researched None l).answer) refl)
    where
      none_so : is_taken (researched None l).answer ≡ true → (researched None l).load.limit ≡ None
      none_so e =
          let q = researched-full l in
          ap (λ (r : StepResult). r.load.limit) q ∙ limit-full l (sym (ap (λ (r : StepResult). is_taken r.answer) q) ∙ e)

      go : (b : Bool) → is_taken (researched None l).answer ≡ b → Found search (researched None l)
      go true e = taken search None e (subst (λ (k : Option ℕ). After s t search (Ok Taken) (done k t)) (sym (none_so e)) a_search)
      go false e =
          subst (λ (m : Load). Searching s l fs search (researched None l).answer m) (sym (untaken-researched None l e))
          (untaken-refused None l w.fresh (λ a. Searching s l fs search a l) (back search) e)

  module _ (n : ℕ) where
    module _ (e : is_taken (within_spec l n).answer ≡ true) where
      few : l.settings.max_transfers ≤ 1
      few = (taken-within l n e).one

      clear : Clear (timetable_of l)
      clear = let f = taken-within l n e in within-clear l n f.kept f.to f.mark f.outcome

      pub limited-here : Within (feed_of s (state_at l fs)) n (offers_within n (timetable_of l)) (joins_within n (timetable_of l))
          (finished_within n (timetable_of l))
      limited-here = within-here s l fs w o n clear few

      is : researched (Some n) l ≡ step_of (within_spec l n)
      is = researched-within n l few

      limited-after : After s t (limited n) (Ok Taken) (done (researched (Some n) l).load.limit t)
      unfolding finishes_in
      limited-after =
          subst (After s t (limited n) (Ok Taken)) (limited-to n t (finished_within n (timetable_of l)) (researched (Some n) l).load.limit
          (ap (λ (r : StepResult). r.load.limit) is ∙ limit-within n l e))
          (a_limited limited-here)

      limited-found : Found (limited n) (step_of (within_spec l n))
      limited-found = subst (Found (limited n)) is
          (taken (limited n) (Some n) (ap (λ (r : StepResult). is_taken r.answer) is ∙ e) limited-after)

    pub limited-so : Searching s l fs (limited n) (within_spec l n).answer (within_spec l n).load
    limited-so = go (is_taken (within_spec l n).answer) refl
      where
        go : (b : Bool) → is_taken (within_spec l n).answer ≡ b
            → Searching s l fs (limited n) (within_spec l n).answer (within_spec l n).load
        go true e = limited-found e
        go false e =
            within-cases l n (λ r. is_taken r.answer ≡ false → Searching s l fs (limited n) r.answer r.load)
            (λ x q. back (limited n) AlreadySearched) (λ x y q. back (limited n) SettingsRange) (λ x y z q. by z) e
          where
            by : (z : Outcome) → is_taken (ran_within l n z).answer ≡ false
                → Searching s l fs (limited n) (ran_within l n z).answer (ran_within l n z).load
            by clashing q = back (limited n) Neighbours
            by falling q = back (limited n) NoRoom
            by (found ks h m) q = absurd (true≢false q)
