-- What is claimed of calls added to and withdrawn from a load.
use Rattle.refusal.specs.declared.Accepted.TheVariants.{Taken}
use Rattle.std.specs.Prelude.{ℕ, ◌≤◌, ◌≡◌, ◌⊎◌, true, false, List, [], ◌∷◌, ◌++◌, None, Some, Ok}
use Rattle.calls.specs.declared.Call.{Call}
use Rattle.calls.specs.declared.CallInput.{CallInput}
use Rattle.offers.specs.Order.{in_order_of, clashes}
use Rattle.offers.specs.Offers.{Timetable, with_calls, sorted}
use Rattle.load.specs.declared.Load.{Load}
use Rattle.load.specs.Steps.{closed_load}
use Rattle.load.specs.Sound.{Sound}
use Rattle.calls.specs.declared.CallKey.{CallKey}
use Rattle.withdrawal.specs.Removal.{key_of}
use Rattle.search.specs.Timetable.{timetable_of}
use Rattle.search.specs.Search.{search_spec}
use Rattle.search.specs.Within.{finishes_in, within_spec}
use Rattle.limited.specs.Limited.{joins_within, all_joins}
use Rattle.again.specs.Again.{unsearched_of, researched, add_spec_of, taken_out, withdraw_spec}
use Rattle.week.specs.Weeks.{is_dated}

-- a searched load is the search of its own table: the list is the one that a fresh search of the load gives, in full or, where it was
-- stopped, within its limit
abbrev pub Own : Load → Type 0
Own l = l.searched ≡ true → researched l.limit (unsearched_of l) ≡ record { answer = Ok Taken; load = l }

-- a load that steps make: sound, and where it is searched the search of its own table
pub record Kept (l : Load) : Type 0 where
  pub sound : Sound l
  pub own : Own l

-- each step keeps that; a stop or a rule changes no searched load
abbrev pub SearchKept : Type 0
SearchKept = (l : Load) → Kept l → Kept (search_spec l).load

abbrev pub WithinKept : Type 0
WithinKept = (l : Load) (n : ℕ) → Kept l → Kept (within_spec l n).load

abbrev pub AddKept : Type 0
AddKept = (l : Load) (name : List ℕ) (i : CallInput) → Kept l → Kept (add_spec_of l name i).load

abbrev pub WithdrawKept : Type 0
WithdrawKept = (l : Load) (k : CallKey) → Kept l → Kept (withdraw_spec l k).load

-- so a finished searched load is the full search of its own table; and of one that was stopped the search within its limit is not finished
abbrev pub OwnFinished : Type 0
OwnFinished = (l : Load) → Kept l → l.searched ≡ true → l.limit ≡ None
    → search_spec (unsearched_of l) ≡ record { answer = Ok Taken; load = l }

pub record Stops (n : ℕ) (l : Load) : Type 0 where
  pub is : within_spec (unsearched_of l) n ≡ record
      { answer = Ok Taken; load = l; joins = joins_within n (timetable_of l); finished = false }
  pub unfinished : finishes_in l n ≡ false

abbrev pub OwnStopped : Type 0
OwnStopped = (l : Load) → Kept l → (n : ℕ) → l.limit ≡ Some n → Stops n l

-- a call more has no fewer joins: a search that was stopped is stopped with it too
abbrev pub MoreJoins : Type 0
MoreJoins = (t : Timetable) (c : Call) → clashes (in_order_of (t.calls ++ c ∷ [])) ≡ false
    → all_joins t ≤ all_joins (with_calls t (t.calls ++ c ∷ []))

-- withdrawing straight after taking gives back the load, unsearched, finished or stopped, save that services stay closed, if the table's
-- horizon didn't fall
abbrev pub TakenBack : Type 0
TakenBack = (l : Load) (name : List ℕ) (i : CallInput) → Kept l
    → (add_spec_of l name i).answer ≡ Ok Taken → (add_spec_of l name i).load.table_horizon ≡ l.table_horizon
    → withdraw_spec (add_spec_of l name i).load (key_of i) ≡ record { answer = Ok Taken; load = closed_load l }

-- a load without dates has its services closed from the start, and so has one that has answered a call: they are given back exactly
abbrev pub ClosedSame : Type 0
ClosedSame = (l : Load) → Sound l → (is_dated l.week ≡ false) ⊎ (l.week.closed ≡ true) → closed_load l ≡ l

-- the table's horizon never rises
abbrev pub NeverWider : Type 0
NeverWider = (l : Load) (name : List ℕ) (i : CallInput) (k : CallKey)
    → ((add_spec_of l name i).load.table_horizon ≤ l.table_horizon) × ((withdraw_spec l k).load.table_horizon ≡ l.table_horizon)

-- the search after a withdrawal never meets 14
abbrev pub NeverClashes : Type 0
NeverClashes = (l : Load) (k : CallKey) → Kept l → l.searched ≡ true
    → clashes (sorted (timetable_of (taken_out (unsearched_of l) k).load)) ≡ false
