-- The table that a call comes to by its cuts, and the answer there. It is found by the times and the table alone: no answer is used.
use Rattle.refusal.specs.declared.Accepted.TheVariants.{Outside}
use Rattle.std.specs.Prelude.{ℕ, zero, suc, ◌<◌, ◌≡◌, List, [], ◌∷◌, ◌++◌, Bool, true, not, cond, ◌&&◌, ltb, leb, Option, Err, Ok}
use Rattle.refusal.specs.declared.Refusal.TheVariants.{NoRoom}
use Rattle.refusal.specs.First.{First, first_answer, is_taken, Answer}
use Rattle.settings.specs.declared.Settings.{Settings}
use Rattle.calls.specs.declared.CallInput.{CallInput}
use Rattle.calls.specs.declared.Table.{Table}
use Rattle.calls.specs.Tried.{Tried}
use Rattle.calls.specs.Windows.{outside, seen_call}
use Rattle.calls.specs.Tables.{cut, less, put, fitted}
use Rattle.calls.specs.Calls.{call_tests, call_time, call_on}
use Rattle.calls.specs.Sizes.{call_room}
use Rattle.profile.specs.Sizes.{least_horizon}

-- the table is full
abbrev pub is_full : Table → Bool
is_full t = leb call_room t.count

-- a call with arrival a and departure d, inside the window, meets it full
abbrev pub meets_full : Table → Option ℕ → Option ℕ → Bool
meets_full t a d = not (outside t.horizon a d) && is_full t

-- the table after at most n cuts: it is cut while the call meets it full and the next horizon is 3600 or more
abbrev pub reached_in : ℕ → Table → Option ℕ → Option ℕ → Table
reached_in zero t a d = t
reached_in (suc n) t a d = cond (meets_full t a d && leb least_horizon (less t.horizon)) (reached_in n (cut (less t.horizon) t) a d) t

-- each cut takes a second or more off the horizon, so there are no more than it has
unfoldable pub reached : Table → Option ℕ → Option ℕ → Table
reached t a d = reached_in t.horizon t a d

-- a call that still meets it full: the horizon would fall below 3600
abbrev pub ReachedFull : Type 0
ReachedFull = (t : Table) (a d : Option ℕ) → meets_full (reached t a d) a d ≡ true → less (reached t a d).horizon < least_horizon

-- what is asked of the table reached: is the call outside; is the table full, and would its horizon fall below 3600
abbrev pub reached_tests : Table → Option ℕ → Option ℕ → List (Bool × Answer)
reached_tests r a d = (outside r.horizon a d, Ok Outside) ∷ (is_full r && ltb (less r.horizon) least_horizon, Err NoRoom) ∷ []

-- if neither, the call goes in as it is seen up to that table's horizon
abbrev pub reached_fit : Table → Option ℕ → Option ℕ → CallInput → Tried
reached_fit r a d i = record {
  answer = first_answer (reached_tests r a d);
  table = cond (is_taken (first_answer (reached_tests r a d))) (put r (seen_call r.horizon a d i)) r;
}

abbrev pub FittedReached : Type 0
FittedReached = (t : Table) (a d : Option ℕ) (i : CallInput) → fitted t a d i ≡ reached_fit (reached t a d) a d i

-- the same of a call's own times: outside, 11
abbrev pub call_window : Settings → Table → CallInput → List (Bool × Answer)
call_window s t i =
    let a = call_time s i i.arrival in
    let d = call_time s i i.departure in
    reached_tests (reached t a d) a d

-- the tests of a call in the order of RULES 16.2, each with its answer: 15, 9, outside for a lacking time, 10, outside, 11
abbrev pub call_causes : Settings → Bool → ℕ → Table → CallInput → List (Bool × Answer)
call_causes s searched stops t i = call_tests searched stops i ++ call_window s t i

-- the answer is that of the first that holds
abbrev pub CallAnswered : Type 0
CallAnswered = (s : Settings) (b : Bool) (n : ℕ) (t : Table) (i : CallInput) → First (call_on s b n t i).answer (call_causes s b n t i)
