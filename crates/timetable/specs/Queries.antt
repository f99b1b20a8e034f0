-- Best and next after, over a list of rows.
use Rattle.std.specs.Prelude.{◌≡◌, cond, List, ℕ, leb, ltb, take, ℤ, None, Option, is_some, option_map, option_and_then, Ok}
use Rattle.std.specs.List.{find}
use Rattle.profile.specs.declared.Journey.{Journey}
use Rattle.refusal.specs.declared.Accepted.TheVariants.{Taken}
use Rattle.best.specs.Turn.{asked}
use Rattle.best.specs.Best.{best_spec, next_spec, after_of}
use Rattle.file.specs.File.{read_spec_of}
use Rattle.timetable.specs.declared.journeys.TimetableJourney.{TimetableJourney}
use Rattle.timetable.specs.declared.list.TimetableList.{TimetableList}
use Rattle.timetable.specs.Journeys.{journey_row, journey_of}
use Rattle.timetable.specs.List.{list_of}

-- the first that leaves at the second or later: none before 0 and after the horizon
unfoldable pub first_leaving : List TimetableJourney → ℕ → ℤ → Option TimetableJourney
first_leaving rs h s = option_and_then (λ t. find (λ r. leb t r.leave) rs) (asked h s)

-- those that count
abbrev pub rows_in : TimetableList → List TimetableJourney
rows_in l = take l.count l.journey

-- none of a list that no search left
unfoldable pub best_in : TimetableList → ℤ → Option TimetableJourney
best_in l s = cond (ltb l.state 2) None (first_leaving (rows_in l) l.horizon s)

abbrev pub next_in : TimetableList → ℤ → TimetableJourney → Option TimetableJourney
next_in l s missed = best_in l (after_of s missed.leave)

-- 2 where there is no such list, else whether one was found
unfoldable pub query_number : ℕ → Option TimetableJourney → ℕ
query_number state found = cond (ltb state 2) 2 (cond (is_some found) 1 0)

-- ---- what is claimed: of every file that is read to its end the queries answer as its load does

abbrev pub BestOfFile : Type 0
BestOfFile = (xs : List ℕ) → (read_spec_of xs).answer ≡ Ok Taken → (s : ℤ)
    → option_map journey_of (best_in (list_of (read_spec_of xs)) s) ≡ best_spec (read_spec_of xs).reader.load s

abbrev pub NextOfFile : Type 0
NextOfFile = (xs : List ℕ) → (read_spec_of xs).answer ≡ Ok Taken → (s : ℤ) (missed : Journey)
    → option_map journey_of (next_in (list_of (read_spec_of xs)) s (journey_row missed)) ≡ next_spec (read_spec_of xs).reader.load s missed
