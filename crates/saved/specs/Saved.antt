-- "Reading it gives the load with epochs equal to the start": a written load is read as it was, and each load has one file.
use Rattle.refusal.specs.declared.Accepted.TheVariants.{Taken}
use Rattle.std.specs.Prelude.{◌≡◌, false, cond, List, [], ◌∷◌, ◌++◌, map, ℕ, take, Ok}
use Rattle.laws.specs.Lists.{concat_map}
use Rattle.stops.specs.declared.Stop.{Stop}
use Rattle.stops.specs.Stops.{id_of, name_of}
use Rattle.rules.specs.declared.Rule.{Rule}
use Rattle.calls.specs.declared.Call.{Call}
use Rattle.load.specs.declared.Load.{Load}
use Rattle.load.specs.Load.{empty_load, stopped}
use Rattle.load.specs.Steps.{Opening}
use Rattle.load.specs.Sound.{Opens}
use Rattle.steps.specs.Steps.{Step}
use Rattle.steps.specs.Lists.{end_of}
use Rattle.file.specs.declared.RecordResult.{RecordResult}
use Rattle.file.specs.Record.{open_reader, record_spec}
use Rattle.file.specs.File.{read_spec_of}
use Rattle.codec.specs.Shapes.{framed}
use Rattle.codec.specs.Kinds.{settings_body, stop_body, rule_body, call_body, search_body}
use Rattle.codec.specs.Parts.{at_start, parent_id_of, stop_input_of, call_input_of}
use Rattle.written.specs.Kept.{Whole}
use Rattle.written.specs.Keeps.{AllGive}
use Rattle.writer.specs.File.{write_spec_of}
use Rattle.writer.specs.Wrote.{unwritable}
use Rattle.week.specs.Weeks.{is_dated}
use Rattle.calls.specs.Sizes.{longest_horizon}

-- ---- the load that is read

-- the load with its epochs at the start
unfoldable pub load_at_start : Load → Load
load_at_start l = record {
  settings = at_start l.settings;
  stops = l.stops;
  stop_count = l.stop_count;
  calls = l.calls;
  call_count = l.call_count;
  rules = l.rules;
  rule_count = l.rule_count;
  journeys = l.journeys;
  journey_count = l.journey_count;
  table_horizon = l.table_horizon;
  table_limits = l.table_limits;
  horizon = l.horizon;
  limits = l.limits;
  searched = l.searched;
  limit = l.limit;
  week = l.week;
}

abbrev pub read_as : Load → RecordResult
read_as l = record { answer = Ok Taken; reader = open_reader l }

-- ---- what may be written: a load that steps made, without dates, whose search was not stopped, of a table that was never cut

pub record Writable (l : Load) : Type 0 where
  pub whole : Whole l
  pub dateless : is_dated l.week ≡ false
  pub unstopped : stopped l ≡ false
  pub uncut : l.table_horizon ≡ longest_horizon

-- which 25 does not meet
abbrev pub Passes : Load → Type 0
Passes l = unwritable (is_dated l.week) (stopped l) l.table_horizon ≡ false

abbrev pub PassesWritable : Type 0
PassesWritable = (l : Load) → Whole l → Passes l → Writable l

-- ---- the records of a file

unfoldable pub stop_record : List Stop → Stop → List ℕ
stop_record stops s = stop_body (id_of s) (name_of s) (parent_id_of stops s) (stop_input_of s)

unfoldable pub rule_record : Rule → List ℕ
rule_record r = rule_body r

unfoldable pub call_record : Call → List ℕ
call_record c = call_body (call_input_of c)

-- those after the settings
unfoldable pub records_of : Load → List (List ℕ)
records_of l =
    map (stop_record l.stops) (take l.stop_count l.stops)
    ++ (map rule_record (take l.rule_count l.rules)
    ++ (map call_record (take l.call_count l.calls) ++ cond l.searched (search_body ∷ []) []))

-- a file is its version, the settings and these
abbrev pub FileIs : Type 0
FileIs = (l : Load) → write_spec_of l ≡ 2 ∷ (framed (settings_body (at_start l.settings)) ++ concat_map framed (records_of l))

-- the load takes the record, and its table is not cut
pub record Takes (l : Load) (b : List ℕ) (m : Load) : Type 0 where
  pub taken : record_spec (open_reader l) b ≡ read_as m
  pub uncut : m.table_horizon ≡ l.table_horizon

-- one after the other: nothing is refused, lies outside or cuts
pub data Feeds : Load → List (List ℕ) → Load → Type 0 where
  none : {l : Load} → Feeds l [] l
  more : {l m n : Load} {b : List ℕ} {bs : List (List ℕ)} → Takes l b m → Feeds m bs n → Feeds l (b ∷ bs) n

abbrev pub RecordsTaken : Type 0
RecordsTaken = (l : Load) → Writable l → Feeds (empty_load (at_start l.settings)) (records_of l) (load_at_start l)

-- ---- read (write l) = l with its epochs at the start

abbrev pub ReadsBack : Type 0
ReadsBack = (l : Load) → Writable l → read_spec_of (write_spec_of l) ≡ read_as (load_at_start l)

-- of every list of steps whose load 25 does not meet; the degrees handed in are f64s
abbrev pub EndReadsBack : Type 0
EndReadsBack = (o : Opening) (xs : List Step) → Opens o → AllGive xs → Passes (end_of o xs)
    → read_spec_of (write_spec_of (end_of o xs)) ≡ read_as (load_at_start (end_of o xs))

-- ---- two loads have one file exactly if they differ in their epochs at most

abbrev pub OneFile : Type 0
OneFile = (l m : Load) → Writable l → Writable m → write_spec_of l ≡ write_spec_of m → load_at_start l ≡ load_at_start m

abbrev pub OneFileBack : Type 0
OneFileBack = (l m : Load) → load_at_start l ≡ load_at_start m → write_spec_of l ≡ write_spec_of m
