-- The dated part of a load: the dates of its days and its services. Why a service or an exception is sent back, what it leaves, and
-- whether the service that a call names runs.
use Rattle.std.specs.Prelude.{ℕ, suc, ◌+◌, ◌%◌, Bool, true, false, not, cond, ◌||◌, List, [], ◌∷◌, leb, get_or, take, set, replicate}
use Rattle.std.specs.Prelude.{None, Some, Err}
use Rattle.std.specs.Option.{is_some, unwrap_or}
use Rattle.laws.specs.Lists.{anyb}
use Rattle.refusal.specs.declared.Refusal.TheVariants.{AlreadySearched, IdLength, IdTaken, DateWrong, ServiceUnknown, ServicesFull}
use Rattle.refusal.specs.First.{first_answer, is_taken, Answer}
use Rattle.texts.specs.Texts.{held, bytes_of}
use Rattle.services.specs.declared.Service.{Service}
use Rattle.services.specs.Runs.{runs_of}
use Rattle.services.specs.Exceptions.{days_on, excepted_of}
use Rattle.services.specs.Wrong.{span_wrong, exception_wrong}
use Rattle.stops.specs.Texts.{same_bytes_of}
use Rattle.stops.specs.Answer.{id_wrong}
use Rattle.week.specs.declared.Week.{Week}
use Rattle.week.specs.declared.Running.{Running}
use Rattle.week.specs.declared.Running.TheVariants.{Unknown, Rests, Runs}
use Rattle.texts.specs.Sizes.{id_bytes}
use Rattle.week.specs.Sizes.{service_room}

-- ---- services

-- what an unused slot holds
abbrev pub blank_service : Service
blank_service = record { name = held id_bytes []; weekdays = 0; start = 0; end = 0; added = 0; removed = 0 }

-- a new service: its name, of at most 32 bytes, is held whole; seven weekday marks; no exception yet
unfoldable pub service_of : List ℕ → ℕ → ℕ → ℕ → Service
service_of name weekdays start end = record {
  name = held id_bytes name;
  weekdays = weekdays % 128;
  start = start;
  end = end;
  added = 0;
  removed = 0;
}

abbrev pub name_of : Service → List ℕ
name_of s = bytes_of s.name

-- the service has the name
abbrev pub named : List ℕ → Service → Bool
named name s = same_bytes_of (name_of s) name

-- how many stand before the first of which p holds; all of them, where it holds of none
abbrev pub place_of : (Service → Bool) → List Service → ℕ
place_of p [] = 0
place_of p (s ∷ ss) = cond (p s) 0 (suc (place_of p ss))

-- ---- weeks

-- what a service or an exception is answered, and the week after it
pub record WeekStepped : Type 0 where
  pub answer : Answer
  pub week : Week

-- a step in place: its answer, and the week that it leaves
abbrev pub week_stepped : Answer → Week → WeekStepped
week_stepped a w = record { answer = a; week = w }

abbrev pub is_dated : Week → Bool
is_dated w = is_some w.dates

-- the dates of the three days; none without dates
abbrev pub dates_in : Week → List ℕ
dates_in w = unwrap_or w.dates []

-- of a load opened without dates: its services are closed from the start
unfoldable pub undated_week : Week
undated_week = record { dates = None; services = replicate service_room blank_service; service_count = 0; closed = true }

-- of a load opened with these dates
unfoldable pub dated_week : List ℕ → Week
dated_week dates = record { dates = Some dates; services = replicate service_room blank_service; service_count = 0; closed = false }

-- after an answered call
abbrev pub closed_week : Week → Week
closed_week w = record { dates = w.dates; services = w.services; service_count = w.service_count; closed = true }

-- with these services, of which n are taken
abbrev pub with_services : Week → List Service → ℕ → Week
with_services w ss n = record { dates = w.dates; services = ss; service_count = n; closed = w.closed }

-- ---- service: 15, 3, 5, 20, 22

-- after the search or after an answered call; a new service's name meets 3 as an id does
unfoldable pub service_tests : Bool → Bool → List Service → ℕ → List ℕ → ℕ → ℕ → List (Bool × Answer)
service_tests searched closed services count name start end =
    (searched || closed, Err AlreadySearched)
    ∷ (id_wrong name, Err IdLength)
    ∷ (anyb (named name) (take count services), Err IdTaken)
    ∷ (span_wrong start end, Err DateWrong)
    ∷ (leb service_room count, Err ServicesFull)
    ∷ []

abbrev pub service_answer : Week → Bool → List ℕ → ℕ → ℕ → Answer
service_answer w searched name start end = first_answer (service_tests searched w.closed w.services w.service_count name start end)

-- the week with the service, where it is taken
unfoldable pub service_on : Week → Bool → List ℕ → ℕ → ℕ → ℕ → WeekStepped
service_on w searched name weekdays start end = record {
  answer = service_answer w searched name start end;
  week = cond (is_taken (service_answer w searched name start end))
      (with_services w (set w.services w.service_count (service_of name weekdays start end)) (w.service_count + 1)) w;
}

-- ---- exception: 15, 20, 21

unfoldable pub exception_tests : Bool → Bool → List Service → ℕ → List ℕ → ℕ → ℕ → List (Bool × Answer)
exception_tests searched closed services count name date kind =
    (searched || closed, Err AlreadySearched)
    ∷ (exception_wrong date kind, Err DateWrong)
    ∷ (not (anyb (named name) (take count services)), Err ServiceUnknown)
    ∷ []

abbrev pub exception_answer : Week → Bool → List ℕ → ℕ → ℕ → Answer
exception_answer w searched name date kind = first_answer (exception_tests searched w.closed w.services w.service_count name date kind)

-- the place of the service with the name
abbrev pub place_in : Week → List ℕ → ℕ
place_in w name = place_of (named name) (take w.service_count w.services)

-- that service
abbrev pub service_in : Week → List ℕ → Service
service_in w name = get_or w.services (place_in w name) blank_service

-- the week with the exception, where it is taken: marked on each of the load's days that has the date
unfoldable pub exception_on : Week → Bool → List ℕ → ℕ → ℕ → WeekStepped
exception_on w searched name date kind = record {
  answer = exception_answer w searched name date kind;
  week = cond (is_taken (exception_answer w searched name date kind))
      (with_services w (set w.services (place_in w name) (excepted_of (service_in w name) (days_on (dates_in w) date) kind))
      w.service_count) w;
}

-- ---- call

-- the service that a call names, on the call's day; without dates the name is unread
unfoldable pub running : Week → List ℕ → ℕ → Running
running w name day =
    cond (is_dated w)
    (cond (anyb (named name) (take w.service_count w.services))
    (cond (runs_of (service_in w name) day (get_or (dates_in w) day 0)) Runs Rests) Unknown)
    Runs
