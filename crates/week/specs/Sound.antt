-- A week that the steps make: its count is in range, the tail blank, and a week without dates is the one of an opening.
use Rattle.std.specs.Prelude.{ℕ, ◌-◌, ◌≤◌, ◌≡◌, Bool, false, List, length, drop, replicate}
use Rattle.week.specs.declared.Week.{Week}
use Rattle.week.specs.Weeks.{is_dated, blank_service, undated_week, dated_week, closed_week, service_on, exception_on}
use Rattle.week.specs.Sizes.{service_room}

pub record WeekSound (w : Week) : Type 0 where
  pub few : w.service_count ≤ service_room
  pub long : length w.services ≡ service_room
  pub blank : drop w.service_count w.services ≡ replicate (service_room - w.service_count) blank_service
  pub undated : is_dated w ≡ false → w ≡ undated_week

abbrev pub UndatedSound : Type 0
UndatedSound = WeekSound undated_week

abbrev pub DatedSound : Type 0
DatedSound = (dates : List ℕ) → WeekSound (dated_week dates)

abbrev pub ClosedSound : Type 0
ClosedSound = (w : Week) → WeekSound w → WeekSound (closed_week w)

abbrev pub ServiceKeepsSound : Type 0
ServiceKeepsSound = (w : Week) (searched : Bool) (name : List ℕ) (weekdays start end : ℕ) → WeekSound w
    → WeekSound (service_on w searched name weekdays start end).week

abbrev pub ExceptionKeepsSound : Type 0
ExceptionKeepsSound = (w : Week) (searched : Bool) (name : List ℕ) (date kind : ℕ) → WeekSound w
    → WeekSound (exception_on w searched name date kind).week
