-- A call added to a load, or withdrawn from it. On a searched load it goes back to the unsearched load, with the table's horizon and
-- mark, is done there, and the load is searched again: "A call added to or withdrawn from a stopped load has it searched within the same
-- limit, and any other searched load in full". A refusal, also of that search, leaves the searched load.
use Rattle.std.specs.Prelude.{ℕ, Bool, false, cond, not, ◌&&◌, List, [], ◌∷◌, leb, eqb, replicate, None, Option, Some, Err}
use Rattle.laws.specs.Lists.{anyb}
use Rattle.refusal.specs.declared.Refusal.TheVariants.{FieldRange, CallUnknown}
use Rattle.refusal.specs.First.{first_answer, is_refused, is_taken, Answer}
use Rattle.profile.specs.Journeys.{no_journey}
use Rattle.calls.specs.declared.CallInput.{CallInput}
use Rattle.calls.specs.Shown.{table_calls}
use Rattle.calls.specs.declared.CallKey.{CallKey}
use Rattle.withdrawal.specs.Removal.{has_key, key_known, withdrawn}
use Rattle.load.specs.declared.Load.{Load}
use Rattle.load.specs.declared.StepResult.{StepResult}
use Rattle.load.specs.Load.{table_of, with_seen, with_table, with_week}
use Rattle.load.specs.Steps.{call_spec}
use Rattle.search.specs.Search.{search_spec}
use Rattle.search.specs.Within.{within_spec, step_of}
use Rattle.profile.specs.Sizes.{kept_room}

-- the unsearched load: calls as they stand, no journey, the table's horizon and mark
unfoldable pub unsearched_of : Load → Load
unsearched_of l =
    with_seen l (table_of l) (record {
      journeys = replicate kept_room no_journey;
      count = 0;
      horizon = l.table_horizon;
      limits = l.table_limits;
      searched = false;
      limit = None;
    })

-- ---- searched again

-- m searched: within the limit at which the search before it was stopped, if it was, and in full otherwise. A load that steps stop has at
-- most one change (`Sound`)
unfoldable pub researched : Option ℕ → Load → StepResult
researched (Some n) m = cond (leb m.settings.max_transfers 1) (step_of (within_spec m n)) (search_spec m)
researched None m = search_spec m

-- the step's answer a with the load that the search q leaves; or why that search is sent back, and the searched load l
abbrev pub searched_as : Load → Answer → StepResult → StepResult
searched_as l a q = cond (is_taken q.answer) (record { answer = a; load = q.load }) (record { answer = q.answer; load = l })

-- r is what a step made of l's unsearched load
unfoldable pub again : Load → StepResult → StepResult
again l r = cond (is_refused r.answer) (record { answer = r.answer; load = l }) (searched_as l r.answer (researched l.limit r.load))

-- ---- call: 9, 21, not running, absent time, 10, outside, 11; on a searched load then 14, 11 of its search

-- a call that is outside and cut nothing, or is refused, leaves the table
abbrev pub leaves_table_of : Load → StepResult → Bool
leaves_table_of l r = not (is_taken r.answer) && eqb r.load.table_horizon l.table_horizon

-- it leaves the searched load, but for the services, which an answered call closes
unfoldable pub added_to : Load → StepResult → StepResult
added_to l r = cond (leaves_table_of l r) (record { answer = r.answer; load = with_week l r.load.week }) (again l r)

-- the call of a service, whose name is empty where none is named
unfoldable pub add_spec_of : Load → List ℕ → CallInput → StepResult
add_spec_of l name i = cond l.searched (added_to l (call_spec (unsearched_of l) name i)) (call_spec l name i)

-- ---- withdrawal: 9, 24; on a searched load then 14, 11 of its search

abbrev pub withdraw_tests : Load → CallKey → List (Bool × Answer)
withdraw_tests l k =
    (not (key_known k), Err FieldRange)
    ∷ (not (anyb (has_key k) (table_calls (table_of l))), Err CallUnknown)
    ∷ []

abbrev pub withdraw_answer : Load → CallKey → Answer
withdraw_answer l k = first_answer (withdraw_tests l k)

-- of an unsearched load
unfoldable pub taken_out : Load → CallKey → StepResult
taken_out l k = record {
  answer = withdraw_answer l k;
  load = cond (is_taken (withdraw_answer l k)) (with_table l (withdrawn (table_of l) k)) l;
}

unfoldable pub withdraw_spec : Load → CallKey → StepResult
withdraw_spec l k = cond l.searched (again l (taken_out (unsearched_of l) k)) (taken_out l k)
