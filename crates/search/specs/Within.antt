-- **Search** within a limit n on joins: 15, 1 with max_transfers above 1, 14, 11; or the calls in order and what the offers before the
-- first join past the limit leave. It is finished if no join is left untested, else stopped. One that finished leaves the load of a full
-- search; one that was stopped leaves a load that holds its limit. RULES 11.
use Rattle.refusal.specs.declared.Accepted.TheVariants.{Taken}
use Rattle.std.specs.Prelude.{◌≡◌, ◌↔◌, Bool, true, false, cond, List, [], ◌∷◌, ℕ, ◌≤◌, ltb, None, Some, Err, Ok, Result}
use Rattle.refusal.specs.declared.Refusal.{Refusal}
use Rattle.refusal.specs.declared.Refusal.TheVariants.{SettingsRange, AlreadySearched, Neighbours, NoRoom}
use Rattle.refusal.specs.First.{First, AllFail, is_refused, Answer}
use Rattle.profile.specs.declared.Journey.{Journey}
use Rattle.profile.specs.Figures.{covᶠ, dueᶠ}
use Rattle.profile.specs.Fall.{fall}
use Rattle.profile.specs.Journeys.{journey_figures}
use Rattle.offers.specs.Order.{clashes}
use Rattle.offers.specs.Offers.{sorted}
use Rattle.offers.specs.Search.{Outcome, clashing, falling, found}
use Rattle.limited.specs.Limited.{offers_within, joins_within, finished_within, search_within}
use Rattle.limited_rides.specs.declared.Tested.{Tested}
use Rattle.load.specs.declared.Load.{Load}
use Rattle.load.specs.declared.StepResult.{StepResult}
use Rattle.load.specs.Load.{stopped}
use Rattle.load.specs.Sound.{Sound}
use Rattle.search.specs.declared.Limited.{Limited}
use Rattle.search.specs.Timetable.{timetable_of}
use Rattle.search.specs.Search.{with_found, with_journeys, is_never, search_spec}
use Rattle.profile.specs.Sizes.{kept_room, least_horizon}

-- the offers of the load before the first join past the limit, in order, from the table's horizon and mark
unfoldable pub outcome_within : Load → ℕ → Outcome
outcome_within l n = search_within n (timetable_of l) l.table_horizon l.table_limits

-- no join of the load is left untested
unfoldable pub finishes_in : Load → ℕ → Bool
finishes_in l n = finished_within n (timetable_of l)

-- the load of a full search, or one that was stopped
abbrev pub within_found : Load → ℕ → List Journey → ℕ → ℕ → Load
within_found l n ks h m = cond (finishes_in l n) (with_journeys l ks h m) (with_found l ks h m (Some n))

-- refused: the load as it was, unsorted
abbrev pub settled_within : Load → ℕ → Outcome → Load
settled_within l n clashing = l
settled_within l n falling = l
settled_within l n (found ks h m) = within_found l n ks h m

-- what such a search answers, with its load; how many joins it tested, and whether none is left
pub record Answered : Type 0 where
  pub answer : Answer
  pub load : Load
  pub joins : ℕ
  pub finished : Bool

-- a search that is sent back counts no join
abbrev pub sent_back_of : Load → Answer → Answered
sent_back_of l a = record { answer = a; load = l; joins = 0; finished = false }

abbrev pub answered_by : Load → Result Tested Refusal → Answered
answered_by l (Err r) = sent_back_of l (Err r)
answered_by l (Ok t) = record { answer = Ok Taken; load = l; joins = t.joins; finished = t.finished }

-- as the program hands it back
abbrev pub answered : Limited → Answered
answered w = answered_by w.load w.tested

abbrev pub ran_within : Load → ℕ → Outcome → Answered
ran_within l n clashing = sent_back_of l (Err Neighbours)
ran_within l n falling = sent_back_of l (Err NoRoom)
ran_within l n (found ks h m) =
    record { answer = Ok Taken; load = within_found l n ks h m; joins = joins_within n (timetable_of l); finished = finishes_in l n }

unfoldable pub within_spec : Load → ℕ → Answered
within_spec l n =
    cond l.searched (sent_back_of l (Err AlreadySearched))
    (cond (ltb 1 l.settings.max_transfers) (sent_back_of l (Err SettingsRange)) (ran_within l n (outcome_within l n)))

-- its answer and its load
abbrev pub step_of : Answered → StepResult
step_of w = record { answer = w.answer; load = w.load }

-- the horizon would fall below 3600, by those offers
unfoldable pub would_fall_within : Load → ℕ → Bool
would_fall_within l n =
    is_never (fall (covᶠ journey_figures) (dueᶠ journey_figures) kept_room least_horizon l.table_horizon l.table_limits []
    (offers_within n (timetable_of l)))

-- the tests in order, each with its answer; no test reads the answer. Those of the search itself: 14, 11
abbrev pub within_tests : Load → ℕ → List (Bool × Answer)
within_tests l n = (clashes (sorted (timetable_of l)), Err Neighbours) ∷ (would_fall_within l n, Err NoRoom) ∷ []

-- all of them: 15, 1, 14, 11
abbrev pub within_causes : Load → ℕ → List (Bool × Answer)
within_causes l n =
    (l.searched, Err AlreadySearched) ∷ (ltb 1 l.settings.max_transfers, Err SettingsRange) ∷ within_tests l n

-- ---- what is claimed

pub record WithinAnswered (l : Load) (n : ℕ) : Type 0 where
  pub first : First (within_spec l n).answer (within_causes l n)
  pub taken : (within_spec l n).answer ≡ Ok Taken → AllFail (within_causes l n)
  pub unchanged : is_refused (within_spec l n).answer ≡ true → (within_spec l n).load ≡ l

-- one that finished is the full search: its answer and its load
abbrev pub FinishedIsSearch : Type 0
FinishedIsSearch = (l : Load) (n : ℕ) → l.settings.max_transfers ≤ 1 → finishes_in l n ≡ true → step_of (within_spec l n) ≡ search_spec l

-- a load is stopped exactly if its search did not finish, and then holds its limit
pub record WithinLeaves (l : Load) (n : ℕ) : Type 0 where
  pub searched : (within_spec l n).load.searched ≡ true
  pub says : (within_spec l n).finished ≡ finishes_in l n
  pub counts : (within_spec l n).joins ≡ joins_within n (timetable_of l)
  pub stops : (stopped (within_spec l n).load ≡ true) ↔ ((within_spec l n).finished ≡ false)
  pub holds : (within_spec l n).load.limit ≡ cond (finishes_in l n) None (Some n)

abbrev pub WithinTaken : Type 0
WithinTaken = (l : Load) (n : ℕ) → (within_spec l n).answer ≡ Ok Taken → WithinLeaves l n

abbrev pub WithinSound : Type 0
WithinSound = (l : Load) (n : ℕ) → Sound l → Sound (within_spec l n).load
