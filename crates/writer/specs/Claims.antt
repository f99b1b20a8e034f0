-- What is claimed of writing: 25 and 26 exactly by their causes, and which bytes of the buffer stay.
use Rattle.refusal.specs.declared.Accepted.TheVariants.{Taken}
use Rattle.std.specs.Prelude.{ℕ, ◌<◌, ◌≡◌, true, false, List, length, take, drop, is_some, Err, Ok}
use Rattle.std.specs.Result.{is_ok, result_and}
use Rattle.refusal.specs.declared.Refusal.TheVariants.{LoadUnwritable, BufferShort}
use Rattle.refusal.specs.First.{First, AllFail}
use Rattle.load.specs.declared.Load.{Load}
use Rattle.writer.specs.File.{write_spec_of}
use Rattle.writer.specs.Wrote.{write_tests, wrote_spec, buffer_after}
use Rattle.week.specs.Weeks.{is_dated}
use Rattle.calls.specs.Sizes.{longest_horizon}

-- a load that is not of the kind that is written: one with dates, one whose search was stopped, or one whose table was cut
pub data Unwritten (l : Load) : Type 0 where
  dated : is_dated l.week ≡ true → Unwritten l
  stopped : is_some l.limit ≡ true → Unwritten l
  cut : l.table_horizon < longest_horizon → Unwritten l

-- 25 exactly there, also with no room
abbrev pub UnwritableExactly : Type 0
UnwritableExactly = (l : Load) (room : ℕ)
    → (wrote_spec l room ≡ Err LoadUnwritable → Unwritten l) × (Unwritten l → wrote_spec l room ≡ Err LoadUnwritable)

-- 26 exactly where the file of another load is longer than the buffer
pub record Short (l : Load) (room : ℕ) : Type 0 where
  pub right_kind : Unwritten l → ⊥
  pub longer : room < length (write_spec_of l)

abbrev pub ShortExactly : Type 0
ShortExactly = (l : Load) (room : ℕ) → (wrote_spec l room ≡ Err BufferShort → Short l room)
    × (Short l room → wrote_spec l room ≡ Err BufferShort)

-- the answer is that of the first cause that holds, and a written load has none
pub record WroteAnswered (l : Load) (room : ℕ) : Type 0 where
  pub first : First (result_and (wrote_spec l room) (Ok Taken)) (write_tests l room)
  pub taken : (n : ℕ) → wrote_spec l room ≡ Ok n → AllFail (write_tests l room)

abbrev pub WriteAnswered : Type 0
WriteAnswered = (l : Load) (room : ℕ) → WroteAnswered l room

-- the buffer keeps its length; a refusal leaves it; a written file stands at its start; bytes past the file stay
pub record Left (l : Load) (before : List ℕ) : Type 0 where
  pub long : length (buffer_after l before) ≡ length before
  pub refused : is_ok (wrote_spec l (length before)) ≡ false → buffer_after l before ≡ before
  pub written : (n : ℕ) → wrote_spec l (length before) ≡ Ok n → take n (buffer_after l before) ≡ write_spec_of l
  pub past : drop (length (write_spec_of l)) (buffer_after l before) ≡ drop (length (write_spec_of l)) before

abbrev pub BufferLeft : Type 0
BufferLeft = (l : Load) (before : List ℕ) → Left l before
