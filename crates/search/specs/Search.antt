-- **Search** (RULES 8): 15, 14, 11; or the calls in order, the journeys kept in list order, horizon and limits by 8.6, searched.
use Rattle.refusal.specs.declared.Accepted.TheVariants.{Taken}
use Rattle.std.specs.Prelude.{◌≡◌, Bool, true, false, cond, List, [], ◌∷◌, ℕ, length, None, Option, Err, Ok}
use Rattle.laws.specs.Lists.{padded}
use Rattle.refusal.specs.declared.Refusal.TheVariants.{AlreadySearched, Neighbours, NoRoom}
use Rattle.refusal.specs.First.{First, AllFail, is_refused, Answer}
use Rattle.calls.specs.declared.Table.{Table}
use Rattle.profile.specs.declared.Journey.{Journey}
use Rattle.profile.specs.Figures.{covᶠ, dueᶠ}
use Rattle.profile.specs.Fall.{Ends, up_to, never, fall}
use Rattle.profile.specs.Journeys.{no_journey, journey_figures}
use Rattle.offers.specs.Order.{sort_first, clashes}
use Rattle.offers.specs.Offers.{sorted, offers}
use Rattle.offers.specs.Search.{Outcome, clashing, falling, found, answer_of, search_of}
use Rattle.load.specs.declared.Load.{Load}
use Rattle.load.specs.declared.StepResult.{StepResult}
use Rattle.load.specs.Load.{with_seen}
use Rattle.search.specs.Timetable.{timetable_of}
use Rattle.profile.specs.Sizes.{kept_room, least_horizon}

-- every offer of the load in order, from the table's horizon and mark
unfoldable pub outcome_of : Load → Outcome
outcome_of l = search_of (timetable_of l) l.table_horizon l.table_limits

-- the call table of a load, its calls in order
abbrev pub sorted_table : Load → Table
sorted_table l = record {
  calls = sort_first l.call_count l.calls;
  count = l.call_count;
  horizon = l.table_horizon;
  limits = l.table_limits;
}

-- the load, searched: its calls in order, these journeys, this horizon and mark; and the limit at which the search was stopped, if it was
abbrev pub with_found : Load → List Journey → ℕ → ℕ → Option ℕ → Load
with_found l ks h m n =
    with_seen l (sorted_table l)
    (record { journeys = padded no_journey kept_room ks; count = length ks; horizon = h; limits = m; searched = true; limit = n })

-- searched in full
abbrev pub with_journeys : Load → List Journey → ℕ → ℕ → Load
with_journeys l ks h m = with_found l ks h m None

-- refused: the load as it was, unsorted
abbrev pub settled : Load → Outcome → Load
settled l clashing = l
settled l falling = l
settled l (found ks h m) = with_journeys l ks h m

unfoldable pub search_spec : Load → StepResult
search_spec l =
    cond l.searched (record { answer = Err AlreadySearched; load = l })
    (record { answer = answer_of (outcome_of l); load = settled l (outcome_of l) })

-- a fall with no end that a search may have
abbrev pub is_never : Ends → Bool
is_never (up_to h l) = false
is_never never = true

-- the horizon would fall below 3600, by the offers in order, from the table's horizon and mark
unfoldable pub would_fall : Load → Bool
would_fall l =
    is_never (fall (covᶠ journey_figures) (dueᶠ journey_figures) kept_room least_horizon l.table_horizon l.table_limits []
    (offers (timetable_of l)))

-- the tests in the order of RULES 16.2, each with its answer: 15, 14, 11; no test reads the answer
abbrev pub search_causes : Load → List (Bool × Answer)
search_causes l =
    (l.searched, Err AlreadySearched)
    ∷ (clashes (sorted (timetable_of l)), Err Neighbours)
    ∷ (would_fall l, Err NoRoom)
    ∷ []

pub record SearchAnswered (l : Load) : Type 0 where
  pub first : First (search_spec l).answer (search_causes l)
  pub taken : (search_spec l).answer ≡ Ok Taken → AllFail (search_causes l)
  pub unchanged : is_refused (search_spec l).answer ≡ true → (search_spec l).load ≡ l
