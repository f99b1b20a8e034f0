-- The tests of a call and of a withdrawal, each with its answer, in order. 14 and 11 of the search again are asked of the load that is
-- searched again.
use Rattle.refusal.specs.declared.Accepted.TheVariants.{Taken, Outside}
use Rattle.std.specs.Prelude.{ℕ, ◌≡◌, ◌↔◌, Bool, true, false, cond, not, ◌&&◌, List, [], ◌∷◌, ◌++◌, leb, ltb, None, Option, Some, Err, Ok}
use Rattle.laws.specs.Lists.{anyb}
use Rattle.refusal.specs.declared.Refusal.TheVariants.{FieldRange, Neighbours, NoRoom, CallUnknown}
use Rattle.refusal.specs.First.{First, AllFail, is_refused, Answer}
use Rattle.calls.specs.declared.CallInput.{CallInput}
use Rattle.calls.specs.declared.Table.{Table}
use Rattle.calls.specs.Windows.{outside}
use Rattle.calls.specs.Tables.{less}
use Rattle.calls.specs.Calls.{known, time_tests, call_time}
use Rattle.calls.specs.Reached.{is_full, reached, reached_tests}
use Rattle.calls.specs.Shown.{table_calls}
use Rattle.offers.specs.Order.{clashes}
use Rattle.offers.specs.Offers.{sorted}
use Rattle.calls.specs.declared.CallKey.{CallKey}
use Rattle.withdrawal.specs.Removal.{has_key, key_known}
use Rattle.load.specs.declared.Load.{Load}
use Rattle.load.specs.declared.StepResult.{StepResult}
use Rattle.load.specs.Load.{table_of}
use Rattle.load.specs.Steps.{running_tests, call_spec}
use Rattle.week.specs.Weeks.{running}
use Rattle.search.specs.Timetable.{timetable_of}
use Rattle.search.specs.Search.{would_fall}
use Rattle.search.specs.Within.{would_fall_within}
use Rattle.again.specs.Again.{unsearched_of, add_spec_of, withdraw_tests, taken_out, withdraw_spec}
use Rattle.profile.specs.Sizes.{least_horizon}

-- the horizon would fall below 3600 in the search again, by the offers before the stop or by all of them
abbrev pub falls_again : Option ℕ → Load → Bool
falls_again (Some n) m = cond (leb m.settings.max_transfers 1) (would_fall_within m n) (would_fall m)
falls_again None m = would_fall m

-- of the search again of m, what a step made of l's unsearched load: 14, 11
abbrev pub search_tests : Load → Load → List (Bool × Answer)
search_tests l m = (clashes (sorted (timetable_of m)), Err Neighbours) ∷ (falls_again l.limit m, Err NoRoom) ∷ []

-- a full table whose horizon would fall below 3600
abbrev pub no_room_of : Table → Bool
no_room_of r = is_full r && ltb (less r.horizon) least_horizon

-- of a call with arrival a and departure d on a searched load l: r is the table that the cuts reach, m what the call leaves of the
-- unsearched load. A call that is outside only after a cut has the load searched again, so 14 and 11 of that search
-- come before its outside
abbrev pub again_tests : Load → Option ℕ → Option ℕ → Table → Load → List (Bool × Answer)
again_tests l a d r m =
    (outside r.horizon a d && not (ltb r.horizon l.table_horizon), Ok Outside)
    ∷ (not (outside r.horizon a d) && no_room_of r, Err NoRoom)
    ∷ search_tests l m ++ ((outside r.horizon a d, Ok Outside) ∷ [])

-- after the tests that every call meets
abbrev pub later_tests : Bool → Load → List ℕ → CallInput → List (Bool × Answer)
later_tests searched l name i =
    let a = call_time l.settings i i.arrival in
    let d = call_time l.settings i i.departure in
    let r = reached (table_of l) a d in
    cond searched (again_tests l a d r (call_spec (unsearched_of l) name i).load) (reached_tests r a d)

-- 9, 21, not running, absent time, 10, and then those; 15 is no longer one
abbrev pub add_causes : Load → List ℕ → CallInput → List (Bool × Answer)
add_causes l name i =
    (not (known l.stop_count i), Err FieldRange)
    ∷ running_tests (running l.week name i.day) ++ time_tests i ++ later_tests l.searched l name i

-- 9, 24; on a searched load then 14, which no load that steps make meets, and 11
abbrev pub withdraw_causes : Load → CallKey → List (Bool × Answer)
withdraw_causes l k =
    cond l.searched (withdraw_tests (unsearched_of l) k ++ search_tests l (taken_out (unsearched_of l) k).load) (withdraw_tests l k)

-- ---- what is claimed: the answer is that of the first test that holds, a taken step has none, and a refused load comes back unchanged

pub record Answered (r : StepResult) (l : Load) (ts : List (Bool × Answer)) : Type 0 where
  pub first : First r.answer ts
  pub taken : r.answer ≡ Ok Taken → AllFail ts
  pub unchanged : is_refused r.answer ≡ true → r.load ≡ l

abbrev pub AddAnswered : Type 0
AddAnswered = (l : Load) (name : List ℕ) (i : CallInput) → Answered (add_spec_of l name i) l (add_causes l name i)

abbrev pub WithdrawAnswered : Type 0
WithdrawAnswered = (l : Load) (k : CallKey) → Answered (withdraw_spec l k) l (withdraw_causes l k)

-- 24 exactly if a call can have the key and the table has no such call
abbrev pub UnknownExactly : Type 0
UnknownExactly = (l : Load) (k : CallKey) → key_known k ≡ true
    → ((withdraw_spec l k).answer ≡ Err CallUnknown) ↔ (anyb (has_key k) (table_calls (table_of l)) ≡ false)
