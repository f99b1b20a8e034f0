-- The steps that alter a load, as one type: what each answers, and the load that it returns.
use Rattle.refusal.specs.First.{Answer}
use Rattle.std.specs.Prelude.{Bool, cond, List, [], ◌∷◌, ℕ}
use Rattle.calls.specs.declared.CallKey.{CallKey}
use Rattle.load.specs.declared.Load.{Load}
use Rattle.load.specs.declared.StepResult.{StepResult}
use Rattle.load.specs.FillStep as fill
use Rattle.load.specs.FillStep.{FillStep, stop, call, rule, service, exception, filled}
use Rattle.search.specs.Search.{search_spec, search_causes}
use Rattle.search.specs.Within.{within_spec, step_of, within_causes}
use Rattle.again.specs.Again.{add_spec_of, withdraw_spec}
use Rattle.again.specs.Causes.{add_causes, withdraw_causes}

-- a stop, a call, a rule, a service or an exception is handed in; a call is withdrawn; or the load is searched, in full or within a limit
-- on joins
pub data Step : Type 0 where
  filling : FillStep → Step
  withdraw : CallKey → Step
  search : Step
  limited : ℕ → Step

-- the answer, and the load that is returned; a call may come before the search or after it
abbrev pub stepped : Load → Step → StepResult
stepped l (filling (stop id name parent i)) = filled l (stop id name parent i)
stepped l (filling (call name i)) = add_spec_of l name i
stepped l (filling (rule i)) = filled l (rule i)
stepped l (filling (service name weekdays start end)) = filled l (service name weekdays start end)
stepped l (filling (exception name date kind)) = filled l (exception name date kind)
stepped l (withdraw k) = withdraw_spec l k
stepped l search = search_spec l
stepped l (limited n) = step_of (within_spec l n)

-- the tests of a step, each with its answer, in the order of RULES 16.2
abbrev pub causes : Load → Step → List (Bool × Answer)
causes l (filling (stop id name parent i)) = fill.causes l (stop id name parent i)
causes l (filling (call name i)) = add_causes l name i
causes l (filling (rule i)) = fill.causes l (rule i)
causes l (filling (service name weekdays start end)) = fill.causes l (service name weekdays start end)
causes l (filling (exception name date kind)) = fill.causes l (exception name date kind)
causes l (withdraw k) = withdraw_causes l k
causes l search = search_causes l
causes l (limited n) = within_causes l n

-- the numbers of those answers; 0 stands for outside: of a call by a service that doesn't run, by an absent time and by its window. On a
-- searched load the 14 and 11 of the search again follow, and then 0 for a call that is outside only after a cut
abbrev pub numbers : Bool → Step → List ℕ
numbers searched (filling (stop id name parent i)) = 15 ∷ 3 ∷ 5 ∷ 6 ∷ 7 ∷ 8 ∷ 4 ∷ []
numbers searched (filling (call name i)) = 9 ∷ 21 ∷ 0 ∷ 0 ∷ 10 ∷ 0 ∷ 11 ∷ cond searched (14 ∷ 11 ∷ 0 ∷ []) []
numbers searched (filling (rule i)) = 15 ∷ 9 ∷ 12 ∷ 13 ∷ 11 ∷ []
numbers searched (filling (service name weekdays start end)) = 15 ∷ 3 ∷ 5 ∷ 20 ∷ 22 ∷ []
numbers searched (filling (exception name date kind)) = 15 ∷ 20 ∷ 21 ∷ []
numbers searched (withdraw k) = 9 ∷ 24 ∷ cond searched (14 ∷ 11 ∷ []) []
numbers searched search = 15 ∷ 14 ∷ 11 ∷ []
numbers searched (limited n) = 15 ∷ 1 ∷ 14 ∷ 11 ∷ []
