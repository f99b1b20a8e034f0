-- What a load file is answered that is read in parts: as one that is there whole (`file/File`), with the version that it has.
use Rattle.std.specs.Prelude.{◌≡◌, ℕ, List, false, cond, drop}
use Rattle.refusal.specs.First.{is_refused}
use Rattle.file.specs.declared.Reader.{Reader}
use Rattle.file.specs.declared.RecordResult.{RecordResult}
use Rattle.file.specs.Record.{fresh_reader, took}
use Rattle.file.specs.File.{version_answer, is_second, fed_spec, ended_by, read_spec_of}

-- the records that follow the version, up to the end
abbrev pub records_of : Reader → List ℕ → RecordResult
records_of r xs = ended_by xs (fed_spec r xs)

-- the reader of a file of that version
abbrev pub reader_of : Reader → List ℕ → Reader
reader_of r xs = record { opened = r.opened; second = is_second xs; load = r.load }

-- the file read to a reader, which is left as it was where the version is refused
unfoldable pub input_of : Reader → List ℕ → RecordResult
input_of r xs =
    cond (is_refused (version_answer xs)) (took (version_answer xs) r)
    (records_of (reader_of r xs) (drop 1 xs))

-- to a fresh one it is read as `reader: read()` reads it
abbrev pub FreshReads : Type 0
FreshReads = (xs : List ℕ) → input_of (fresh_reader false) xs ≡ read_spec_of xs
