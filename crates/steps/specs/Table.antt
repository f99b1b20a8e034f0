-- Which calls the table holds, from the opening and the list alone: those answered taken and not withdrawn, in the order handed in, as the
-- window shows them at the table's horizon; in order of trip, day and sequence once the load is searched.
use Rattle.std.specs.Prelude.{◌≡◌, ◌↔◌, Bool, true, false, cond, List, [], ◌∷◌, ◌++◌}
use Rattle.refusal.specs.First.{is_taken}
use Rattle.settings.specs.Settings.{canonical_of}
use Rattle.calls.specs.declared.Call.{Call}
use Rattle.calls.specs.declared.CallInput.{CallInput}
use Rattle.calls.specs.Shown.{windowed, table_calls}
use Rattle.profile.specs.declared.Journey.{Journey}
use Rattle.offers.specs.Order.{in_order_of}
use Rattle.offers.specs.Offers.{with_calls}
use Rattle.offers.specs.Admitted as by
use Rattle.load.specs.declared.Load.{Load}
use Rattle.load.specs.Load.{table_of}
use Rattle.load.specs.Steps.{Opening, opened}
use Rattle.load.specs.FillStep.{stop, call, rule, service, exception}
use Rattle.withdrawal.specs.Removal.{without_last, named_in}
use Rattle.search.specs.Timetable.{timetable_of}
use Rattle.again.specs.Again.{add_spec_of, withdraw_spec}
use Rattle.steps.specs.Steps.{Step, filling, withdraw, search, limited}
use Rattle.steps.specs.Lists.{next, end_of, Admitted}

-- the calls held, after one more step; of several with the key in the table the last goes
abbrev pub held_after : List CallInput → Load → Step → List CallInput
held_after is l (filling (stop id name parent i)) = is
held_after is l (filling (call name i)) = cond (is_taken (add_spec_of l name i).answer) (is ++ (i ∷ [])) is
held_after is l (filling (rule i)) = is
held_after is l (filling (service name weekdays start end)) = is
held_after is l (filling (exception name date kind)) = is
held_after is l (withdraw k) = cond (is_taken (withdraw_spec l k).answer) (without_last (named_in l.settings l.table_horizon k) is) is
held_after is l search = is
held_after is l (limited n) = is

abbrev pub held_by_of : List CallInput → Load → List Step → List CallInput
held_by_of is l [] = is
held_by_of is l (x ∷ xs) = held_by_of (held_after is l x) (next l x) xs

-- a search puts the calls in order
abbrev pub ordered : Bool → List Call → List Call
ordered true cs = in_order_of cs
ordered false cs = cs

-- those held at the end, each seen through the window at the table's horizon
abbrev pub shown_at : Opening → List Step → List Call
shown_at o xs = windowed (canonical_of o.settings) (end_of o xs).table_horizon (held_by_of [] (opened o) xs)

abbrev pub TableHeld : Type 0
TableHeld = (o : Opening) (xs : List Step) → table_calls (table_of (end_of o xs)) ≡ ordered (end_of o xs).searched (shown_at o xs)

-- the journeys that demands 2 and 3 speak of are those of the calls held: a withdrawn call doesn't count as answered taken
abbrev pub AdmittedHeld : Type 0
AdmittedHeld = (o : Opening) (xs : List Step) → (end_of o xs).searched ≡ true → (j : Journey)
    → Admitted o xs j ↔ by.Admitted (with_calls (timetable_of (end_of o xs)) (shown_at o xs)) j
