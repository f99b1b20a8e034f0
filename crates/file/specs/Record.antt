-- A record of a load file, tested and taken. Its body is what follows its length: the kind byte and the fields.
use Rattle.refusal.specs.declared.Accepted.TheVariants.{Taken}
use Rattle.std.specs.Prelude.{ℕ, Bool, true, false, not, cond, ◌&&◌, ◌≡◌, List, [], ◌∷◌, ◌++◌, eqb, leb, length, Err, Ok}
use Rattle.refusal.specs.declared.Refusal.TheVariants.{RecordLength, RecordKind}
use Rattle.refusal.specs.First.{First, AllFail, first_answer, is_refused, answer_number, Answer}
use Rattle.fields.specs.Numbers.{byte_at}
use Rattle.fields.specs.Layout.{text_at, option_text_at, name_at, parent_at, stop_filled_of, call_filled_of, rule_filled_of}
use Rattle.fields.specs.Layout.{search_filled_of}
use Rattle.fields.specs.Records.{stop_in, call_in, rule_in}
use Rattle.fields.specs.Second.{settings_by, settings_filled_by}
use Rattle.laws.specs.Lists.{one_of}
use Rattle.load.specs.declared.Load.{Load}
use Rattle.load.specs.declared.StepResult.{StepResult}
use Rattle.load.specs.Load.{empty_load, blank_settings}
use Rattle.load.specs.Steps.{undated, open_tests, open_spec_of}
use Rattle.load.specs.FillStep.{stop, call, rule}
use Rattle.steps.specs.Steps.{Step, filling, search, stepped, causes, numbers}
use Rattle.file.specs.declared.Reader.{Reader}
use Rattle.file.specs.declared.RecordResult.{RecordResult}

-- before the first record, of a file of version 2 or of version 1
unfoldable pub fresh_reader : Bool → Reader
fresh_reader second = record { opened = false; second = second; load = empty_load blank_settings }

-- once the settings are taken; the version counts no more
abbrev pub open_reader : Load → Reader
open_reader l = record { opened = true; second = false; load = l }

-- a record in place: its answer, and the reader that it leaves
abbrev pub took : Answer → Reader → RecordResult
took a r = record { answer = a; reader = r }

-- settings come first and only first; after them kinds 2 to 5: stop, call, rule, search
unfoldable pub kind_right : Bool → ℕ → Bool
kind_right false kind = eqb kind 1
kind_right true kind = leb 2 kind && leb kind 5

-- the fields fill the record exactly, and each optional byte is 0 or 1
unfoldable pub filled : Bool → List ℕ → Bool
filled second b =
    cond (eqb (byte_at b 0) 1) (settings_filled_by second b)
    (cond (eqb (byte_at b 0) 2) (stop_filled_of b)
    (cond (eqb (byte_at b 0) 3) (call_filled_of b) (cond (eqb (byte_at b 0) 4) (rule_filled_of b) (search_filled_of b))))

-- why a record is turned away, in request 01's order; the step's own refusals come after these
unfoldable pub record_tests : Bool → Bool → List ℕ → List (Bool × Answer)
record_tests opened second b =
    (eqb (length b) 0, Err RecordLength)
    ∷ (not (kind_right opened (byte_at b 0)), Err RecordKind)
    ∷ (not (filled second b), Err RecordLength)
    ∷ []

-- what a record of kind 2 to 5 hands in
unfoldable pub step_in : List ℕ → Step
step_in b =
    cond (eqb (byte_at b 0) 2) (filling (stop (text_at b 1) (option_text_at b (name_at b)) (option_text_at b (parent_at b)) (stop_in b)))
    (cond (eqb (byte_at b 0) 3) (filling (call [] (call_in b))) (cond (eqb (byte_at b 0) 4) (filling (rule (rule_in b))) search))

-- the settings open a load; every other record is handed to it
unfoldable pub stepped_by : Reader → List ℕ → StepResult
stepped_by r b = cond r.opened (stepped r.load (step_in b)) (open_spec_of (undated (settings_by r.second b)))

-- a refused record leaves the reader as it was
unfoldable pub settled : Reader → StepResult → RecordResult
settled r s = record { answer = s.answer; reader = cond (is_refused s.answer) r (open_reader s.load) }

unfoldable pub record_spec : Reader → List ℕ → RecordResult
record_spec r b =
    cond (is_refused (first_answer (record_tests r.opened r.second b)))
    (record { answer = first_answer (record_tests r.opened r.second b); reader = r })
    (settled r (stepped_by r b))

-- the tests of the opening or of the step, and the numbers of their answers
abbrev pub causes_by : Reader → List ℕ → List (Bool × Answer)
causes_by r b = cond r.opened (causes r.load (step_in b)) (open_tests (undated (settings_by r.second b)))

abbrev pub numbers_by : Reader → List ℕ → List ℕ
numbers_by r b = cond r.opened (numbers r.load.searched (step_in b)) (1 ∷ 2 ∷ [])

-- the answer is that of the first cause that holds: the record's, then the opening's or the step's own; a taken record has none, and a
-- refused one changes nothing
pub record Answered (r : Reader) (b : List ℕ) : Type 0 where
  pub first : First (record_spec r b).answer (record_tests r.opened r.second b ++ causes_by r b)
  pub taken : (record_spec r b).answer ≡ Ok Taken → AllFail (record_tests r.opened r.second b ++ causes_by r b)
  -- its number is 18, 19, one that the scope lists for the opening or the step, or 0
  pub listed : one_of (answer_number (record_spec r b).answer) (0 ∷ 18 ∷ 19 ∷ numbers_by r b) ≡ true
  pub unchanged : is_refused (record_spec r b).answer ≡ true → (record_spec r b).reader ≡ r

abbrev pub RecordAnswered : Type 0
RecordAnswered = (r : Reader) (b : List ℕ) → Answered r b
