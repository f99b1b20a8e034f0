-- Why a whole file is answered as it is: for its version, for a record's first cause, or for its end.
use Rattle.std.specs.Prelude.{ℕ, ◌+◌, ◌≡◌, Bool, true, false, List, [], ◌∷◌, ◌++◌, length, drop, Err}
use Rattle.refusal.specs.declared.Refusal.TheVariants.{FileVersion}
use Rattle.refusal.specs.First.{First, is_refused, answer_number, Answer}
use Rattle.laws.specs.Lists.{one_of}
use Rattle.fields.specs.Numbers.{byte_at}
use Rattle.file.specs.declared.Reader.{Reader}
use Rattle.file.specs.declared.RecordResult.{RecordResult}
use Rattle.file.specs.Record.{fresh_reader, record_tests, record_spec, causes_by}
use Rattle.file.specs.File.{starts_whole, size_of, body_of, end_tests, read_spec_of}

-- the reader after the whole records up to a place of the bytes, each of which was taken or lay outside
pub data Reached (second : Bool) (bytes : List ℕ) : Reader → ℕ → Type 0 where
  start : Reached second bytes (fresh_reader second) 0
  past : {r : Reader} {at : ℕ} → Reached second bytes r at → starts_whole (drop at bytes) ≡ true
      → is_refused (record_spec r (body_of (drop at bytes))).answer ≡ false
      → Reached second bytes (record_spec r (body_of (drop at bytes))).reader (at + size_of (drop at bytes))

-- the version of a file: 1, or 2
pub data Version (xs : List ℕ) : Bool → Type 0 where
  one : byte_at xs 0 ≡ 1 → Version xs false
  two : byte_at xs 0 ≡ 2 → Version xs true

-- of a file xs: 17; a record sent back for its first cause, with the reader before it; or the end, with 18, 19 or none
pub data FileAnswered (xs : List ℕ) : RecordResult → Type 0 where
  version : (byte_at xs 0 ≡ 1 → ⊥) → (byte_at xs 0 ≡ 2 → ⊥)
      → FileAnswered xs (record { answer = Err FileVersion; reader = fresh_reader false })
  refused : {second : Bool} {r : Reader} {at : ℕ} {a : Answer} → Version xs second → Reached second (drop 1 xs) r at
      → starts_whole (drop at (drop 1 xs)) ≡ true
      → First a (record_tests r.opened r.second (body_of (drop at (drop 1 xs))) ++ causes_by r (body_of (drop at (drop 1 xs))))
      → is_refused a ≡ true
      → FileAnswered xs (record { answer = a; reader = r })
  ended : {second : Bool} {r : Reader} {at : ℕ} {a : Answer} → Version xs second → Reached second (drop 1 xs) r at
      → starts_whole (drop at (drop 1 xs)) ≡ false
      → First a (end_tests r.opened (length (drop at (drop 1 xs)))) → FileAnswered xs (record { answer = a; reader = r })

abbrev pub ReadAnswered : Type 0
ReadAnswered = (xs : List ℕ) → FileAnswered xs (read_spec_of xs)

-- the numbers of a file: those of its steps, so without the time text's 16, and of the file itself (17 to 19); 0 where it is not sent back
abbrev pub file_numbers : List ℕ
file_numbers = 0 ∷ 1 ∷ 2 ∷ 3 ∷ 4 ∷ 5 ∷ 6 ∷ 7 ∷ 8 ∷ 9 ∷ 10 ∷ 11 ∷ 12 ∷ 13 ∷ 14 ∷ 15 ∷ 17 ∷ 18 ∷ 19 ∷ []

abbrev pub ReadListed : Type 0
ReadListed = (xs : List ℕ) → one_of (answer_number (read_spec_of xs).answer) file_numbers ≡ true
