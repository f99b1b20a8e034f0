-- What writing a load into a lent buffer answers, and what it leaves in the buffer.
use Rattle.std.specs.Prelude.{ℕ, Bool, cond, ◌||◌, List, [], ◌∷◌, ◌++◌, ltb, length, drop, Result, Err, Ok}
use Rattle.std.specs.Result.{result_and}
use Rattle.refusal.specs.declared.Refusal.{Refusal}
use Rattle.refusal.specs.declared.Refusal.TheVariants.{LoadUnwritable, BufferShort}
use Rattle.refusal.specs.First.{first_answer, is_taken, Answer}
use Rattle.load.specs.declared.Load.{Load}
use Rattle.load.specs.Load.{stopped}
use Rattle.writer.specs.File.{write_spec_of}
use Rattle.week.specs.Weeks.{is_dated}
use Rattle.calls.specs.Sizes.{longest_horizon}

-- "Only loads without dates, not stopped, and with horizon 21600 before any search are written": the table's horizon
unfoldable pub unwritable : Bool → Bool → ℕ → Bool
unwritable dated stopped horizon = dated || (stopped || ltb horizon longest_horizon)

-- why a load is not written, in request 13's order: 25, then 26 for a buffer with room for less than the file
unfoldable pub write_tests : Load → ℕ → List (Bool × Answer)
write_tests l room =
    (unwritable (is_dated l.week) (stopped l) l.table_horizon, Err LoadUnwritable)
    ∷ (ltb room (length (write_spec_of l)), Err BufferShort)
    ∷ []

abbrev pub write_answer : Load → ℕ → Answer
write_answer l room = first_answer (write_tests l room)

-- the length of a written file
unfoldable pub wrote_spec : Load → ℕ → Result ℕ Refusal
wrote_spec l room = result_and (write_answer l room) (Ok (length (write_spec_of l)))

-- a written file stands at the start of the buffer, and bytes past it stay; a buffer that isn't written to stays as it was
unfoldable pub buffer_after : Load → List ℕ → List ℕ
buffer_after l before = cond (is_taken (write_answer l (length before))) (write_spec_of l ++ drop (length (write_spec_of l)) before) before
