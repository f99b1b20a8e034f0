-- What a load file's search found, as plain numbers.
use Rattle.std.specs.Prelude.{Bool, cond, List, [], ℕ, pos, length, get_or, Option, Err, Ok, is_some}
use Rattle.std.specs.Prelude.{unwrap_or}
use Rattle.laws.specs.Tables.{table}
use Rattle.refusal.specs.Causes.{number_of}
use Rattle.refusal.specs.First.{Answer, is_refused}
use Rattle.profile.specs.declared.Journey.{Journey}
use Rattle.profile.specs.Journeys.{no_journey}
use Rattle.load.specs.declared.Load.{Load}
use Rattle.search.specs.Within.{Answered, sent_back_of, within_spec}
use Rattle.best.specs.Best.{kept_of}
use Rattle.margin.specs.Stopped.{margin_spec}
use Rattle.file.specs.declared.RecordResult.{RecordResult}
use Rattle.timetable.specs.declared.journeys.TimetableJourney.{TimetableJourney}
use Rattle.timetable.specs.declared.list.TimetableList.{TimetableList}
use Rattle.timetable.specs.Journeys.{journey_row}
use Rattle.profile.specs.Sizes.{kept_room}

-- the rows of a list, and after them rows that are all 0, up to 64
unfoldable pub row_at : List Journey → ℕ → TimetableJourney
row_at ks i = journey_row (get_or ks i no_journey)

unfoldable pub rows_of : List Journey → List TimetableJourney
rows_of ks = table kept_room (row_at ks)

-- not searched; stopped at its limit; finished
unfoldable pub state_of : Bool → Option ℕ → ℕ
state_of searched limit = cond searched (cond (is_some limit) 2 3) 1

-- nothing but the number of a refusal
unfoldable pub refused_list : ℕ → TimetableList
refused_list n = record {
  now = pos 0;
  joins = 0;
  horizon = 0;
  margin = 65535;
  refusal = n;
  state = 0;
  limits = 0;
  count = 0;
  journey = rows_of [];
}

-- of a load; n joins were tested
unfoldable pub load_list : ℕ → Load → TimetableList
load_list n l = record {
  now = l.settings.now;
  joins = n;
  horizon = l.horizon;
  margin = unwrap_or (margin_spec l) 65535;
  refusal = 0;
  state = state_of l.searched l.limit;
  limits = l.limits;
  count = length (kept_of l);
  journey = rows_of (kept_of l);
}

-- after the last step was answered so
unfoldable pub list_by : Answer → ℕ → Load → TimetableList
list_by (Ok a) n l = load_list n l
list_by (Err r) n l = refused_list (number_of r)

-- of a file
abbrev pub list_of : RecordResult → TimetableList
list_of t = list_by t.answer 0 t.reader.load

-- a file's load searched within a limit; a refused file isn't searched
unfoldable pub within_of : RecordResult → ℕ → Answered
within_of t limit = cond (is_refused t.answer) (sent_back_of t.reader.load t.answer) (within_spec t.reader.load limit)

abbrev pub list_within : Answered → TimetableList
list_within w = list_by w.answer w.joins w.load
