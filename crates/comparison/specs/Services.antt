-- When a service runs, by what was handed in; and which call names a service that was not taken, or one that doesn't run on its day.
-- RULES 4.
use Rattle.std.specs.Prelude.{◌≡◌, ◌⊎◌, ℕ, ◌/◌, ◌%◌, ◌^◌, ◌≤◌, get_or, Some}
use mathlib.Core.List.{List, Memᴰ}
use Rattle.calendar.specs.Dates.{weekday_of}
use Rattle.calendar.specs.Promises.{Parts}
use Rattle.load.specs.FillStep.{FillStep, exception}
use Rattle.comparison.specs.Taken.{ServiceGiven, services_in, State}

-- the calendar doesn't have the date d: it is made of no year from 1 to 9999 with one of its months and days
abbrev pub NoDate : ℕ → Type 0
NoDate d = (y m n : ℕ) → Parts d y m n → ⊥

-- the weekday of the date is marked, Monday's by bit 0, and the date lies from the first to the last, both included
pub record InWeek (g : ServiceGiven) (date : ℕ) : Type 0 where
  pub weekday : weekday_of date ≤ 6
  pub marked : g.weekdays / 2 ^ weekday_of date % 2 ≡ 1
  pub from : g.start ≤ date
  pub to : date ≤ g.end

-- the service runs on the date: no exception taken removes (2) it, and one adds (1) it or the week has it, whichever came first
pub record RunsOn (fs : List FillStep) (g : ServiceGiven) (date : ℕ) : Type 0 where
  pub not_removed : Memᴰ (exception g.name date 2) fs → ⊥
  pub wanted : Memᴰ (exception g.name date 1) fs ⊎ InWeek g date

-- a service with the name was taken
abbrev pub Named : List FillStep → List ℕ → Type 0
Named fs name = (g : ServiceGiven) × Memᴰ g (services_in fs) × (g.name ≡ name)

-- with dates, no service with the name was taken
abbrev pub Unknown : State → List ℕ → Type 0
Unknown t name = (dates : List ℕ) × (t.dates ≡ Some dates) × (Named t.taken name → ⊥)

-- with dates, a service with the name runs on the date of the day
abbrev pub Running : State → List ℕ → ℕ → Type 0
Running t name day =
    (dates : List ℕ) × (t.dates ≡ Some dates) × ((g : ServiceGiven) × Memᴰ g (services_in t.taken) × (g.name ≡ name)
    × RunsOn t.taken g (get_or dates day 0))

-- with dates, none does
abbrev pub Resting : State → List ℕ → ℕ → Type 0
Resting t name day = ((dates : List ℕ) × (t.dates ≡ Some dates)) × (Running t name day → ⊥)
