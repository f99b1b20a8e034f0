-- A whole list of steps, handed to a fresh load: each entry gets the load that the one before it returned, those sent back included.
use Rattle.std.specs.Prelude.{◌≡◌, true, cond, List, None, Option, Some}
use Rattle.refusal.specs.First.{is_refused, is_taken}
use Rattle.profile.specs.declared.Journey.{Journey}
use Rattle.offers.specs.Offers.{offers}
use Rattle.offers.specs.Admitted as by
use Rattle.offers.specs.Handed as lists
use Rattle.load.specs.declared.Load.{Load}
use Rattle.load.specs.declared.StepResult.{StepResult}
use Rattle.load.specs.Steps.{Opening, opened, call_spec}
use Rattle.load.specs.FillStep.{stop, call, rule, service, exception}
use Rattle.search.specs.Timetable.{timetable_of}
use Rattle.search.specs.Search.{search_spec}
use Rattle.search.specs.Within.{within_spec}
use Rattle.again.specs.Again.{unsearched_of, researched, leaves_table_of, taken_out}
use Rattle.steps.specs.Steps.{Step, filling, withdraw, search, limited, stepped}

-- the load that a step returns
abbrev pub next : Load → Step → Load
next l x = (stepped l x).load

-- ---- the unsearched load that the step's accepted search started from; none if it searched nothing, or its search is sent back

-- r is what a step made of l's unsearched load
abbrev pub ran_again : Load → StepResult → Option Load
ran_again l r =
    cond (is_refused r.answer) None (cond (is_taken (researched l.limit r.load).answer) (Some r.load) None)

-- a call that leaves the table has nothing searched again
abbrev pub ran_added : Load → StepResult → Option Load
ran_added l r = cond (leaves_table_of l r) None (ran_again l r)

abbrev pub ran : Load → Step → Option Load
ran l (filling (stop id name parent i)) = None
ran l (filling (call name i)) = cond l.searched (ran_added l (call_spec (unsearched_of l) name i)) None
ran l (filling (rule i)) = None
ran l (filling (service name weekdays start end)) = None
ran l (filling (exception name date kind)) = None
ran l (withdraw k) = cond l.searched (ran_again l (taken_out (unsearched_of l) k)) None
ran l search = cond (is_taken (search_spec l).answer) (Some l) None
ran l (limited n) = cond (is_taken (within_spec l n).answer) (Some l) None

-- ---- a list

abbrev pub handed : Load → List Step → Load
handed l xs = lists.handed next l xs

-- the load at the end
abbrev pub end_of : Opening → List Step → Load
end_of s xs = lists.end_of opened next s xs

-- the load that the last accepted search started from; p if there is none
abbrev pub start : Load → Load → List Step → Load
start p l xs = lists.start next ran p l xs

-- the load as it stood when the last accepted search started, from the opening and the list alone
abbrev pub start_of : Opening → List Step → Load
start_of s xs = lists.start_of opened next ran s xs

-- the journeys that are admitted: those of the stops and rules taken and the calls answered taken and not withdrawn, as the window and the
-- table's cuts leave them when the last accepted search starts. A list with no accepted search, whose load is not searched at the end,
-- admits none
abbrev pub Admitted : Opening → List Step → Journey → Type 0
Admitted s xs j = ((end_of s xs).searched ≡ true) × by.Admitted (timetable_of (start_of s xs)) j

-- those of the timetable, in the order in which the search offers them
abbrev pub offers_of : Opening → List Step → List Journey
offers_of s xs = offers (timetable_of (start_of s xs))
