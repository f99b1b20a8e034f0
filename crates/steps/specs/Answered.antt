-- Demand 1, step by step: a result, or one of the refusals for its stated cause alone; a refused load comes back unchanged.
use Rattle.refusal.specs.declared.Accepted.TheVariants.{Taken}
use Rattle.std.specs.Prelude.{◌≡◌, Bool, true, List, [], ◌∷◌, map, ℕ, None, Option, Some, Ok}
use Rattle.refusal.specs.First.{First, AllFail, is_refused, answer_number, Answer}
use Rattle.calls.specs.Sound.{one_of}
use Rattle.load.specs.declared.Load.{Load}
use Rattle.load.specs.Steps.{Opening, open_tests, open_spec_of, opened}
use Rattle.load.specs.Sound.{Opens}
use Rattle.steps.specs.Steps.{Step, stepped, causes, numbers}

-- the number of a cause; 0 for outside
abbrev pub number : Bool × Answer → ℕ
number t = answer_number t.1

-- of any load and any step
pub record Answered (l : Load) (x : Step) : Type 0 where
  -- the answer is that of the first of its causes that holds; taken where none does. No cause reads the answer
  pub first : First (stepped l x).answer (causes l x)
  -- a step that is taken has no cause against it
  pub taken : (stepped l x).answer ≡ Ok Taken → AllFail (causes l x)
  -- its number is one of those of RULES 16.2 for the step, or 0; the causes stand in that order
  pub listed : one_of (answer_number (stepped l x).answer) (0 ∷ numbers l.searched x) ≡ true
  pub order : map number (causes l x) ≡ numbers l.searched x
  pub unchanged : is_refused (stepped l x).answer ≡ true → (stepped l x).load ≡ l

-- the numbers of an opening's causes: 20 only with dates
abbrev pub open_numbers : Option (List ℕ) → List ℕ
open_numbers None = 1 ∷ 2 ∷ []
open_numbers (Some dates) = 1 ∷ 2 ∷ 20 ∷ []

-- of any opening: the same; no load is handed in that could change
pub record OpeningAnswered (o : Opening) : Type 0 where
  pub first : First (open_spec_of o).answer (open_tests o)
  pub taken : (open_spec_of o).answer ≡ Ok Taken → AllFail (open_tests o)
  pub listed : one_of (answer_number (open_spec_of o).answer) (0 ∷ open_numbers o.dates) ≡ true
  pub order : map number (open_tests o) ≡ open_numbers o.dates
  -- an opening that is not sent back gives the load that the lists of steps start from
  pub opens : Opens o → (open_spec_of o).load ≡ opened o
