-- What a service and an exception are answered, and what is left of a week that turns one away.
use Rattle.std.specs.Prelude.{ℕ, ◌≡◌, Bool, true, List, Err}
use Rattle.refusal.specs.declared.Refusal.TheVariants.{AlreadySearched}
use Rattle.refusal.specs.First.{is_refused}
use Rattle.week.specs.declared.Week.{Week}
use Rattle.week.specs.Weeks.{service_answer, service_on, exception_answer, exception_on}

-- no service or exception is taken after an answered call
pub record Closed (w : Week) : Type 0 where
  pub service : (searched : Bool) (name : List ℕ) (weekdays start end : ℕ)
      → service_on w searched name weekdays start end ≡ record { answer = Err AlreadySearched; week = w }
  pub exception : (searched : Bool) (name : List ℕ) (date kind : ℕ)
      → exception_on w searched name date kind ≡ record { answer = Err AlreadySearched; week = w }

abbrev pub ClosedStays : Type 0
ClosedStays = (w : Week) → w.closed ≡ true → Closed w

-- a step that is sent back leaves the week
abbrev pub ServiceUnchanged : Type 0
ServiceUnchanged = (w : Week) (searched : Bool) (name : List ℕ) (weekdays start end : ℕ)
    → is_refused (service_answer w searched name start end) ≡ true → (service_on w searched name weekdays start end).week ≡ w

abbrev pub ExceptionUnchanged : Type 0
ExceptionUnchanged = (w : Week) (searched : Bool) (name : List ℕ) (date kind : ℕ)
    → is_refused (exception_answer w searched name date kind) ≡ true → (exception_on w searched name date kind).week ≡ w
