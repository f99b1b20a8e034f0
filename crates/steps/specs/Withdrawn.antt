-- What is claimed of the load after any steps: it is the fresh search of its own table, in full or within the limit at which it was
-- stopped, and a call withdrawn straight after it was taken leaves it as it was.
use Rattle.refusal.specs.declared.Accepted.TheVariants.{Taken}
use Rattle.std.specs.Prelude.{ℕ, ◌≡◌, true, false, List, Some, Ok}
use Rattle.calls.specs.declared.CallInput.{CallInput}
use Rattle.offers.specs.Order.{clashes}
use Rattle.offers.specs.Offers.{sorted}
use Rattle.offers.specs.Machine.{LastFound}
use Rattle.load.specs.Steps.{Opening, closed_load}
use Rattle.load.specs.FillStep.{call}
use Rattle.calls.specs.declared.CallKey.{CallKey}
use Rattle.withdrawal.specs.Removal.{key_of}
use Rattle.search.specs.Timetable.{timetable_of}
use Rattle.again.specs.Again.{unsearched_of, taken_out}
use Rattle.again.specs.Claims.{Kept, Stops}
use Rattle.steps.specs.Steps.{Step, filling, withdraw, stepped}
use Rattle.steps.specs.Lists.{next, end_of}
use Rattle.steps.specs.Machine.{machine}

-- sound, and where it is searched the search of its own table
abbrev pub EndKept : Type 0
EndKept = (o : Opening) (xs : List Step) → Kept (end_of o xs)

-- of one that was stopped at the limit n the search within it, which is not finished
abbrev pub EndStopped : Type 0
EndStopped = (o : Opening) (xs : List Step) (n : ℕ) → (end_of o xs).limit ≡ Some n → Stops n (end_of o xs)

-- so the list of a finished one is the one that a fresh search of what the last accepted search started from finds
abbrev pub EndFound : Type 0
EndFound = LastFound machine

-- withdrawing straight after taking gives back the load, unsearched, finished or stopped, save that services stay closed, if the table's
-- horizon didn't fall
abbrev pub EndTakenBack : Type 0
EndTakenBack = (o : Opening) (xs : List Step) (name : List ℕ) (i : CallInput)
    → let l = end_of o xs in
    let m = next l (filling (call name i)) in
    (stepped l (filling (call name i))).answer ≡ Ok Taken → m.table_horizon ≡ l.table_horizon
    → stepped m (withdraw (key_of i)) ≡ record { answer = Ok Taken; load = closed_load l }

-- the search after a withdrawal never meets 14
abbrev pub EndClear : Type 0
EndClear = (o : Opening) (xs : List Step) (k : CallKey)
    → let l = end_of o xs in
    l.searched ≡ true → clashes (sorted (timetable_of (taken_out (unsearched_of l) k).load)) ≡ false
