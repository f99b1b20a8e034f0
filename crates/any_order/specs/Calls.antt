-- Calls handed to a load one after another: the load that they leave, what each is answered, and whether one met 11 or shrank the horizon.
use Rattle.std.specs.Prelude.{ℕ, Bool, false, ◌||◌, List, [], ◌∷◌, eqb, ltb}
use Rattle.refusal.specs.First.{answer_number, Answer}
use Rattle.calls.specs.declared.CallInput.{CallInput}
use Rattle.load.specs.declared.Load.{Load}
use Rattle.load.specs.declared.StepResult.{StepResult}
use Rattle.load.specs.FillStep.{call, filled}

-- the name of a call's service, empty where none is named, and the call
abbrev pub Named : Type 0
Named = List ℕ × CallInput

-- the call is handed in
abbrev pub calling : Load → Named → StepResult
calling l c = filled l (call c.0 c.1)

-- the load after these calls: each gets the load that the one before it returned
abbrev pub called : Load → List Named → Load
called l [] = l
called l (c ∷ cs) = called (calling l c).load cs

-- each call with its answer
abbrev pub answers : Load → List Named → List (Named × Answer)
answers l [] = []
answers l (c ∷ cs) = (c, (calling l c).answer) ∷ answers (calling l c).load cs

-- the call with the answer that it has as the first of all
abbrev pub answer_first : Load → Named → Named × Answer
answer_first l c = (c, (calling l c).answer)

-- a step met 11, or shrank the table's horizon
abbrev pub cramps : Load → StepResult → Bool
cramps l r = eqb (answer_number r.answer) 11 || ltb r.load.table_horizon l.table_horizon

-- one of the calls did
abbrev pub cramped : Load → List Named → Bool
cramped l [] = false
cramped l (c ∷ cs) = cramps l (calling l c) || cramped (calling l c).load cs
