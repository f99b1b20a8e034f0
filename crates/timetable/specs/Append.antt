-- One step over a file: the file's load so far takes a record, which is then put behind the file.
use Rattle.refusal.specs.declared.Accepted.TheVariants.{Taken, Outside}
use Rattle.std.specs.Prelude.{◌≡◌, Bool, false, cond, ◌&&◌, List, ◌++◌, ℕ, ◌+◌, ◌-◌}
use Rattle.std.specs.Prelude.{eqb, leb, min, length, take, drop, Err, Ok, None, Option}
use Rattle.std.specs.Prelude.{Some}
use Rattle.refusal.specs.Causes.{number_of}
use Rattle.refusal.specs.First.{Answer, is_refused}
use Rattle.codec.specs.Shapes.{framed}
use Rattle.file.specs.declared.RecordResult.{RecordResult}
use Rattle.file.specs.Record.{fresh_reader, record_spec}
use Rattle.file.specs.File.{version_answer, is_second, read_spec_of}

-- a file is begun by its version byte alone; any other can be read
unfoldable pub so_far : List ℕ → RecordResult
so_far xs = cond (eqb (length xs) 1) (record { answer = version_answer xs; reader = fresh_reader (is_second xs) }) (read_spec_of xs)

-- what its load answers to the record; a refused file has its own answer
unfoldable pub step_of : List ℕ → List ℕ → RecordResult
step_of xs b = cond (is_refused (so_far xs).answer) (so_far xs) (record_spec (so_far xs).reader b)

-- whether a record of that size can stand behind n bytes, after its length of two
unfoldable pub has_room : ℕ → ℕ → ℕ → Bool
has_room room n size = leb size 65535 && (leb n room && leb (2 + size) (room - n))

-- it stands there, and the bytes past it stay; how many bytes the file has then
unfoldable pub put_behind : List ℕ → ℕ → List ℕ → List ℕ
put_behind xs n b = take n xs ++ (framed b ++ drop (n + (2 + length b)) xs)

abbrev pub buffer_behind : Bool → List ℕ → ℕ → List ℕ → List ℕ
buffer_behind room xs n b = cond room (put_behind xs n b) xs

abbrev pub size_behind : Bool → ℕ → List ℕ → Option ℕ
size_behind room n b = cond room (Some (n + 2 + length b)) None

-- the buffer, how many bytes of it the file has, and the number that is answered
pub record Appended : Type 0 where
  pub buffer : List ℕ
  pub size : ℕ
  pub number : ℕ

-- 0, 255 for a call outside the window, or the number of the refusal
unfoldable pub append_number : Answer → ℕ
append_number (Ok Taken) = 0
append_number (Ok Outside) = 255
append_number (Err r) = number_of r

-- behind the first n bytes, unless the record is refused, and if there is room: 26 where there is none. That of a call outside too, as a
-- full table may be cut by it (RULES 5.4).
unfoldable pub appended_by : Answer → List ℕ → ℕ → ℕ → List ℕ → Appended
appended_by a xs given n b =
    cond (is_refused a) (record { buffer = xs; size = given; number = append_number a })
    (cond (has_room (length xs) n (length b))
    (record { buffer = put_behind xs n b; size = n + 2 + length b; number = append_number a })
    (record { buffer = xs; size = given; number = 26 }))

-- a length past the buffer is that of the whole buffer
abbrev pub appended_at : List ℕ → ℕ → ℕ → List ℕ → Appended
appended_at xs given n b = appended_by (step_of (take n xs) b).answer xs given n b

abbrev pub appended_of : List ℕ → ℕ → List ℕ → Appended
appended_of xs given b = appended_at xs given (min given (length xs)) b

-- ---- what is claimed: a file with a record behind it that its load doesn't refuse is read as the load that this step leaves

abbrev pub ReadAppended : Type 0
ReadAppended = (xs b : List ℕ) → (so_far xs).answer ≡ Ok Taken → is_refused (record_spec (so_far xs).reader b).answer ≡ false
    → read_spec_of (xs ++ framed b) ≡ record { answer = Ok Taken; reader = (record_spec (so_far xs).reader b).reader }
