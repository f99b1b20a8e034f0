-- A file's load written as a file; a refused file's isn't written.
use Rattle.std.specs.Prelude.{List, ℕ, Result, Err, Ok}
use Rattle.refusal.specs.declared.Refusal.{Refusal}
use Rattle.refusal.specs.Causes.{number_of}
use Rattle.refusal.specs.First.{Answer}
use Rattle.load.specs.declared.Load.{Load}
use Rattle.writer.specs.Wrote.{wrote_spec, buffer_after}
use Rattle.file.specs.declared.RecordResult.{RecordResult}

unfoldable pub wrote_by : Answer → Load → ℕ → Result ℕ Refusal
wrote_by (Ok a) l room = wrote_spec l room
wrote_by (Err r) l room = Err r

unfoldable pub buffer_by : Answer → Load → List ℕ → List ℕ
buffer_by (Ok a) l before = buffer_after l before
buffer_by (Err r) l before = before

abbrev pub wrote_of : RecordResult → ℕ → Result ℕ Refusal
wrote_of t room = wrote_by t.answer t.reader.load room

abbrev pub buffer_of : RecordResult → List ℕ → List ℕ
buffer_of t before = buffer_by t.answer t.reader.load before

-- the length and the number; each is 0 where there is the other
abbrev pub length_of : Result ℕ Refusal → ℕ
length_of (Ok n) = n
length_of (Err r) = 0

abbrev pub wrote_number : Result ℕ Refusal → ℕ
wrote_number (Ok n) = 0
wrote_number (Err r) = number_of r
