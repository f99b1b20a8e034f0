-- The weeks of openings are sound, and the steps keep a week sound. What a step leaves that is sent back.
use Rattle.refusal.specs.declared.Accepted.TheVariants.{Taken, Outside}
use Rattle.std.specs.Prelude.{Err, Ok}
use Prim.Native.Nat.{ℕ, ◌+◌}
use mathlib.Core.Path.{◌≡◌, refl, sym, ap, ◌∙◌}
use mathlib.Core.Bool.{Bool, true, false, cond, ◌||◌, true≢false, false≢true}
use mathlib.Core.List.{List}
use native.Mathlib.Omega.{arith}
use lib.ListN.{set, length-set}
use lib.Seq.{drop-set-lt}
use Rattle.laws.proofs.Bools.{or_true_right, or-false-right}
use Rattle.laws.proofs.Slots.{blank-set}
use Rattle.refusal.specs.declared.Refusal.TheVariants.{AlreadySearched}
use Rattle.refusal.specs.First.{hit, is_refused, is_taken, Answer}
use Rattle.refusal.proofs.FirstLaws.{first-is-answer}
use Rattle.services.specs.Exceptions.{days_on, excepted_of}
use Rattle.week.specs.declared.Week.{Week}
use Rattle.week.specs.Weeks.{is_dated, dates_in, WeekStepped}
use Rattle.week.specs.Weeks.{blank_service, service_of, undated_week, dated_week, closed_week, with_services, service_tests, service_answer}
use Rattle.week.specs.Weeks.{service_on, exception_tests, exception_answer, place_in, service_in, exception_on}
use Rattle.week.specs.Sound.{WeekSound, UndatedSound, DatedSound, ClosedSound, ServiceKeepsSound, ExceptionKeepsSound}
use Rattle.week.specs.Steps.{ClosedStays, ServiceUnchanged, ExceptionUnchanged}
use Rattle.week.proofs.StepLaws.{service-passed, exception-passed, place-below, service-refused, exception-refused}

pub undated-sound : UndatedSound
unfolding undated_week
undated-sound = record { few = omega arith; long = refl; blank = refl; undated = λ e. refl }

pub dated-sound : DatedSound
unfolding dated_week
dated-sound dates = record { few = omega arith; long = refl; blank = refl; undated = λ e. absurd (true≢false e) }

-- the week of an opening without dates is closed
pub undated-closed : undated_week.closed ≡ true
unfolding undated_week
undated-closed = refl

closed-undated : closed_week undated_week ≡ undated_week
unfolding undated_week
closed-undated = refl

pub closed-sound : ClosedSound
closed-sound w s = record { few = s.few; long = s.long; blank = s.blank; undated = λ e. ap closed_week (s.undated e) ∙ closed-undated }

-- a week that takes a service or an exception is dated
open-dated : (w : Week) (searched : Bool) → WeekSound w → (searched || w.closed) ≡ false → is_dated w ≡ false → ⊥
open-dated w searched s t e =
    true≢false (sym (ap (λ (v : Week). v.closed) (s.undated e) ∙ undated-closed) ∙ or-false-right searched w.closed t)

pub service-keeps-sound : ServiceKeepsSound
unfolding service_on
service-keeps-sound w searched name weekdays start end s = go (is_taken (service_answer w searched name start end)) refl
  where
    go : (b : Bool) → is_taken (service_answer w searched name start end) ≡ b
        → WeekSound (cond b (with_services w (set w.services w.service_count (service_of name weekdays start end)) (w.service_count + 1)) w)
    go false e = s
    go true e =
        let p = service-passed w searched name weekdays start end _ refl e in
        record {
          few = omega (arith, p.room);
          long = length-set w.services w.service_count (service_of name weekdays start end) ∙ s.long;
          blank = blank-set blank_service 64 w.services w.service_count (service_of name weekdays start end) s.long p.room s.blank;
          undated = λ d. absurd (open-dated w searched s p.in_time d);
        }

pub exception-keeps-sound : ExceptionKeepsSound
unfolding exception_on
exception-keeps-sound w searched name date kind s = go (is_taken (exception_answer w searched name date kind)) refl
  where
    go : (b : Bool) → is_taken (exception_answer w searched name date kind) ≡ b
        → WeekSound (cond b
        (with_services w (set w.services (place_in w name) (excepted_of (service_in w name) (days_on (dates_in w) date) kind))
        w.service_count)
        w)
    go false e = s
    go true e =
        let p = exception-passed w searched name date kind _ refl e in
        let below = (place-below w.services w.service_count name p.known).0 in
        record {
          few = s.few;
          long = length-set w.services (place_in w name) (excepted_of (service_in w name) (days_on (dates_in w) date) kind) ∙ s.long;
          blank =
              drop-set-lt w.service_count w.services (place_in w name)
              (excepted_of (service_in w name) (days_on (dates_in w) date) kind) below
              ∙ s.blank;
          undated = λ d. absurd (open-dated w searched s p.in_time d);
        }

-- ---- what is sent back

refused-not-taken : (a : Answer) → is_refused a ≡ true → is_taken a ≡ false
refused-not-taken (Ok Taken) e = absurd (false≢true e)
refused-not-taken (Ok Outside) e = refl
refused-not-taken (Err r) e = refl

pub service-unchanged : ServiceUnchanged
service-unchanged w searched name weekdays start end e =
    sym (ap (λ (r : WeekStepped). r.week)
    (service-refused w searched name weekdays start end _ refl (refused-not-taken (service_answer w searched name start end) e)))

pub exception-unchanged : ExceptionUnchanged
exception-unchanged w searched name date kind e =
    sym (ap (λ (r : WeekStepped). r.week)
    (exception-refused w searched name date kind _ refl (refused-not-taken (exception_answer w searched name date kind) e)))

service-late : (w : Week) (searched : Bool) (name : List ℕ) (start end : ℕ) → w.closed ≡ true
    → Err AlreadySearched ≡ service_answer w searched name start end
unfolding service_tests
service-late w searched name start end c = first-is-answer _ _ (hit (or_true_right searched w.closed c))

exception-late : (w : Week) (searched : Bool) (name : List ℕ) (date kind : ℕ) → w.closed ≡ true
    → Err AlreadySearched ≡ exception_answer w searched name date kind
unfolding exception_tests
exception-late w searched name date kind c = first-is-answer _ _ (hit (or_true_right searched w.closed c))

pub closed-stays : ClosedStays
closed-stays w c = record {
  service =
      λ searched name weekdays start end. sym
      (service-refused w searched name weekdays start end _ (service-late w searched name start end c) refl);
  exception =
      λ searched name date kind. sym (exception-refused w searched name date kind _ (exception-late w searched name date kind c) refl);
}
