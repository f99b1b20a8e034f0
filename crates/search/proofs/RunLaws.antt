-- A search of a searched load, one that is accepted, and one that is not.
use Rattle.refusal.specs.declared.Accepted.TheVariants.{Taken}
use Rattle.std.specs.Prelude.{Err, Ok}
use Prim.Native.Nat.{ℕ}
use mathlib.Core.Path.{◌≡◌, refl, sym, ap, ◌∙◌}
use mathlib.Core.Bool.{Bool, true, false, true≢false, false≢true}
use mathlib.Core.List.{List}
use lib.ListN.{take}
use Rattle.laws.proofs.Bools.{cond-by, cond-not}
use Rattle.refusal.specs.declared.Refusal.TheVariants.{AlreadySearched}
use Rattle.refusal.specs.First.{is_taken}
use Rattle.profile.specs.declared.Journey.{Journey}
use Rattle.calls.specs.Sound.{CallSound}
use Rattle.calls.proofs.SoundLaws.{all-mem}
use Rattle.offers.specs.Order.{Timed}
use Rattle.offers.specs.Search.{Outcome, clashing, falling, found, answer_of}
use Rattle.load.specs.declared.Load.{Load}
use Rattle.load.specs.declared.StepResult.{StepResult}
use Rattle.load.specs.Sound.{Sound}
use Rattle.search.specs.Timetable.{timetable_of}
use Rattle.search.specs.Search.{outcome_of, with_journeys, settled, search_spec}

abbrev again : Load → StepResult
again l = record { answer = Err AlreadySearched; load = l }

abbrev ran : Load → StepResult
ran l = record { answer = answer_of (outcome_of l); load = settled l (outcome_of l) }

pub search-again : (l : Load) → l.searched ≡ true → search_spec l ≡ again l
unfolding search_spec
search-again l e = cond-by (again l) (ran l) e

pub search-runs : (l : Load) → l.searched ≡ false → search_spec l ≡ ran l
unfolding search_spec
search-runs l e = cond-not (again l) (ran l) e

-- a search that is answered taken ran on a load not searched before, and found these journeys
pub record Found (l : Load) : Type 0 where
  pub new : l.searched ≡ false
  pub kept : List Journey
  pub to : ℕ
  pub mark : ℕ
  pub outcome : outcome_of l ≡ found kept to mark
  pub is : search_spec l ≡ record { answer = Ok Taken; load = with_journeys l kept to mark }

pub taken-found : (l : Load) → is_taken (search_spec l).answer ≡ true → Found l
taken-found l t = by l.searched refl
  where
    go : l.searched ≡ false → (o : Outcome) → outcome_of l ≡ o → is_taken (answer_of o) ≡ true → Found l
    go n clashing e q = absurd (false≢true q)
    go n falling e q = absurd (false≢true q)
    go n (found ks h k) e q = record {
      new = n;
      kept = ks;
      to = h;
      mark = k;
      outcome = e;
      is = search-runs l n ∙ ap (λ (o : Outcome). record { answer = answer_of o; load = settled l o }) e;
    }

    by : (b : Bool) → l.searched ≡ b → Found l
    by true e = absurd (true≢false (sym t ∙ ap (λ (r : StepResult). is_taken r.answer) (search-again l e)))
    by false e = go e (outcome_of l) refl (sym (ap (λ (r : StepResult). is_taken r.answer) (search-runs l e)) ∙ t)

outcome-stays : (l : Load) (o : Outcome) → is_taken (answer_of o) ≡ false → settled l o ≡ l
outcome-stays l clashing e = refl
outcome-stays l falling e = refl
outcome-stays l (found ks h m) e = absurd (true≢false e)

-- and one that is not leaves the load
pub untaken-stays : (l : Load) → is_taken (search_spec l).answer ≡ false → (search_spec l).load ≡ l
untaken-stays l t = go l.searched refl
  where
    go : (b : Bool) → l.searched ≡ b → (search_spec l).load ≡ l
    go true e = ap (λ (r : StepResult). r.load) (search-again l e)
    go false e = ap (λ (r : StepResult). r.load) (search-runs l e)
        ∙ outcome-stays l (outcome_of l) (sym (ap (λ (r : StepResult). is_taken r.answer) (search-runs l e)) ∙ t)

-- the calls of a sound load arrive before they depart
pub sound-timed : (l : Load) → Sound l → Timed (timetable_of l).calls
unfolding timetable_of
sound-timed l s x m = (all-mem (CallSound l.table_horizon) (take l.call_count l.calls) s.table.each x m).ordered
