-- The records of bytes one after the other: what an iterator over them has left, and what a reader makes of each.
use Rattle.refusal.specs.declared.Accepted.TheVariants.{Taken}
use Rattle.std.specs.Prelude.{ℕ, ◌+◌, cond, List, [], ◌∷◌, length, Ok}
use Rattle.refusal.specs.First.{is_refused}
use Rattle.file.specs.declared.Reader.{Reader}
use Rattle.file.specs.declared.ReadResult.{ReadResult}
use Rattle.file.specs.declared.framed.Records.{Records}
use Rattle.file.specs.Record.{record_spec}
use Rattle.file.specs.File.{later}
use Rattle.file.specs.Handed.{bodies_by}

-- the bodies of the whole records at the start of bytes
abbrev pub all_bodies : List ℕ → List (List ℕ)
all_bodies xs = bodies_by (length xs) xs

abbrev pub records_left : Records → List (List ℕ)
records_left r = all_bodies r.rest.now

-- bodies taken one by one, up to the first that is refused; each stood behind two bytes
unfoldable pub fed_each : Reader → List (List ℕ) → ReadResult
fed_each r [] = record { answer = Ok Taken; used = 0; reader = r }
fed_each r (b ∷ bs) =
    cond (is_refused (record_spec r b).answer) (record { answer = (record_spec r b).answer; used = 0; reader = r })
    (later (2 + length b) (fed_each (record_spec r b).reader bs))
