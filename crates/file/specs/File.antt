-- A load file: byte 0 is version 1 or 2; then come records, each after its length of two bytes, tested and taken one by one.
use Rattle.refusal.specs.declared.Accepted.TheVariants.{Taken}
use Rattle.std.specs.Prelude.{ℕ, zero, suc, ◌+◌, ◌≡◌, Bool, not, cond, ◌||◌, List, [], ◌∷◌, ◌++◌, eqb, leb, length, take, drop, None}
use Rattle.std.specs.Prelude.{Option, Some, Err, Ok}
use Rattle.refusal.specs.declared.Refusal.TheVariants.{FileVersion, RecordLength, RecordKind}
use Rattle.refusal.specs.First.{first_answer, is_refused, Answer}
use Rattle.fields.specs.Numbers.{byte_at, u16_at}
use Rattle.file.specs.declared.Reader.{Reader}
use Rattle.file.specs.declared.RecordResult.{RecordResult}
use Rattle.file.specs.declared.ReadResult.{ReadResult}
use Rattle.file.specs.declared.Used.{Used}
use Rattle.file.specs.Record.{fresh_reader, record_spec}

-- ---- 17, before all else: another or no version

unfoldable pub version_answer : List ℕ → Answer
version_answer xs = cond (eqb (byte_at xs 0) 1 || eqb (byte_at xs 0) 2) (Ok Taken) (Err FileVersion)

-- version 2, whose settings have two bytes of seconds
abbrev pub is_second : List ℕ → Bool
is_second xs = eqb (byte_at xs 0) 2

-- ---- the records

-- bytes that start with a whole record: its length, and so many bytes after it
unfoldable pub starts_whole : List ℕ → Bool
starts_whole xs = leb (2 + u16_at xs 0) (length xs)

-- how many bytes it takes, and what stands in it
abbrev pub size_of : List ℕ → ℕ
size_of xs = 2 + u16_at xs 0

abbrev pub body_of : List ℕ → List ℕ
body_of xs = take (u16_at xs 0) (drop 2 xs)

-- the record at their start, if it is there whole
abbrev pub whole_of : List ℕ → Option (List ℕ)
whole_of xs = cond (starts_whole xs) (Some (body_of xs)) None

-- records in place: what they are answered, and the reader that they leave
abbrev pub fed_as : Used → Reader → ReadResult
fed_as u r = record { answer = u.answer; used = u.used; reader = r }

-- so many bytes were used before
abbrev pub later : ℕ → ReadResult → ReadResult
later n f = record { answer = f.answer; used = n + f.used; reader = f.reader }

-- the whole records at the start of the bytes, up to the first that is refused; at most n of them
unfoldable pub fed_by : ℕ → Reader → List ℕ → ReadResult
fed_by zero r xs = record { answer = Ok Taken; used = 0; reader = r }
fed_by (suc n) r xs =
    cond (starts_whole xs) (cond (is_refused (record_spec r (body_of xs)).answer)
    (record { answer = (record_spec r (body_of xs)).answer; used = 0; reader = r })
    (later (size_of xs) (fed_by n (record_spec r (body_of xs)).reader (drop (size_of xs) xs))))
    (record { answer = Ok Taken; used = 0; reader = r })

-- each record takes two bytes or more, so there are no more turns than bytes
unfoldable pub fed_spec : Reader → List ℕ → ReadResult
fed_spec r xs = fed_by (length xs) r xs

-- ---- the end: 18, a record that runs past it; 19, a file with no record

abbrev pub end_tests : Bool → ℕ → List (Bool × Answer)
end_tests opened left = (not (eqb left 0), Err RecordLength) ∷ (not opened, Err RecordKind) ∷ []

unfoldable pub end_answer : Bool → ℕ → Answer
end_answer opened left = first_answer (end_tests opened left)

-- ---- the whole file

abbrev pub ended_by : List ℕ → ReadResult → RecordResult
ended_by xs f = record {
  answer = cond (is_refused f.answer) f.answer (end_answer f.reader.opened (length (drop f.used xs)));
  reader = f.reader;
}

-- read to a reader
unfoldable pub read_to_of : Reader → List ℕ → RecordResult
read_to_of r xs =
    cond (is_refused (version_answer xs)) (record { answer = version_answer xs; reader = r })
    (ended_by (drop 1 xs) (fed_spec r (drop 1 xs)))

unfoldable pub read_spec_of : List ℕ → RecordResult
read_spec_of xs =
    cond (is_refused (version_answer xs)) (record { answer = version_answer xs; reader = fresh_reader (is_second xs) })
    (ended_by (drop 1 xs) (fed_spec (fresh_reader (is_second xs)) (drop 1 xs)))

-- a file may be read in parts: what is left of a part is put before the next, unless a record of the part was refused
abbrev pub continued : ReadResult → List ℕ → List ℕ → ReadResult
continued f xs ys = cond (is_refused f.answer) f (later f.used (fed_spec f.reader (drop f.used xs ++ ys)))

abbrev pub FedInParts : Type 0
FedInParts = (r : Reader) (xs ys : List ℕ) → fed_spec r (xs ++ ys) ≡ continued (fed_spec r xs) xs ys
