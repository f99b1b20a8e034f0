-- A display of lists, and what is asked of what it shows.
use Rattle.std.specs.Prelude.{◌≡◌, Bool, true, false, cond, ◌&&◌, List, [], ◌∷◌, ℕ}
use Rattle.std.specs.Prelude.{ℤ, eqb, leb, ltb, min, length, take, get_or, None, Option}
use Rattle.std.specs.Prelude.{Some, Err, Ok}
use Rattle.laws.specs.Tables.{table}
use Rattle.refusal.specs.Causes.{number_of}
use Rattle.refusal.specs.declared.Refusal.TheVariants.{DisplayGroups}
use Rattle.refusal.specs.declared.Accepted.TheVariants.{Taken}
use Rattle.file.specs.File.{read_spec_of}
use Rattle.profile.specs.declared.Journey.{Journey}
use Rattle.groups.specs.declared.Group.{Group}
use Rattle.display.specs.Parts.{Part}
use Rattle.display.specs.Display.{Display, display_of}
use Rattle.best.specs.Best.{after_of}
use Rattle.timetable.specs.declared.journeys.TimetableJourney.{TimetableJourney}
use Rattle.timetable.specs.declared.list.TimetableList.{TimetableList}
use Rattle.timetable.specs.declared.shown.TimetablePart.{TimetablePart}
use Rattle.timetable.specs.declared.shown.TimetableDisplay.{TimetableDisplay}
use Rattle.timetable.specs.Journeys.{journey_of, no_row}
use Rattle.timetable.specs.List.{refused_list, list_of}
use Rattle.timetable.specs.Queries.{first_leaving}
use Rattle.profile.specs.Sizes.{kept_room}

-- ---- the groups

unfoldable pub journeys_of : List TimetableJourney → List Journey
journeys_of rs = table kept_room (λ i. journey_of (get_or rs i no_row))

-- a list, given for the group of a number
unfoldable pub group_of : ℕ → TimetableList → Group
group_of n l = record {
  number = n;
  searched = leb 2 l.state;
  now = l.now;
  horizon = l.horizon;
  count = l.count;
  journeys = journeys_of l.journey;
}

unfoldable pub given_at : List TimetableList → List ℕ → ℕ → Group
given_at ls ns i = group_of (get_or ns i 0) (get_or ls i (refused_list 0))

-- each with its number, as many as there are of both
abbrev pub given_count : List TimetableList → List ℕ → ℕ
given_count ls ns = min (length ls) (length ns)

unfoldable pub groups_of : List TimetableList → List ℕ → List Group
groups_of ls ns = take (given_count ls ns) (table 4 (given_at ls ns))

-- of more than four one is above 3 or given twice: 23
unfoldable pub dealt_of : List TimetableList → List ℕ → Display
dealt_of ls ns = cond (ltb 4 (given_count ls ns)) (Err DisplayGroups) (display_of (groups_of ls ns))

-- ---- the display

abbrev pub no_part : TimetablePart
no_part = record { window = 0; refusal = 0; share = 0; present = false }

unfoldable pub part_row : Part → TimetablePart
part_row None = no_part
part_row (Some (Err r)) = record { window = 0; refusal = number_of r; share = 0; present = true }
part_row (Some (Ok s)) = record { window = s.window; refusal = 0; share = min s.count 255; present = true }

unfoldable pub display_row : Display → TimetableDisplay
display_row (Err r) = record { part = no_part ∷ no_part ∷ no_part ∷ no_part ∷ []; refusal = number_of r }
display_row (Ok ps) = record {
  part = part_row (get_or ps 0 None) ∷ part_row (get_or ps 1 None) ∷ part_row (get_or ps 2 None) ∷ part_row (get_or ps 3 None) ∷ [];
  refusal = 0;
}

-- ---- what is asked of a part: none where nothing is shown

unfoldable pub shows : TimetablePart → Bool
shows p = p.present && eqb p.refusal 0

unfoldable pub shown_best : TimetableList → TimetablePart → ℤ → Option TimetableJourney
shown_best l p s = cond (shows p) (cond (ltb l.state 2) None (first_leaving (take p.share l.journey) p.window s)) None

abbrev pub shown_next : TimetableList → TimetablePart → ℤ → TimetableJourney → Option TimetableJourney
shown_next l p s missed = shown_best l p (after_of s missed.leave)

-- ---- what is claimed: a file that is read to its end is given as its load is

abbrev pub GroupOfFile : Type 0
GroupOfFile = (xs : List ℕ) → (read_spec_of xs).answer ≡ Ok Taken → (n : ℕ)
    → group_of n (list_of (read_spec_of xs)) ≡ Rattle.groups.specs.Groups.group_of n (read_spec_of xs).reader.load
