-- The week that a service or an exception leaves, by its answer: laws that the steps' proofs cite.
use Prim.Native.Nat.{ℕ, ◌+◌, ◌<◌}
use mathlib.Core.Path.{◌≡◌, refl, sym, ap, ◌∙◌}
use mathlib.Core.Bool.{Bool, true, false, cond, ◌||◌}
use mathlib.Core.List.{List}
use native.Mathlib.Omega.{arith}
use borrow.Author.Tests.{leb-false, not-false}
use lib.ListN.{length, get_or, take, set, length-take}
use Rattle.std.specs.Prelude.{None, Some}
use Rattle.std.specs.List.{find, position_from}
use Rattle.std.proofs.lemmas.List.{get_or-take, get_or_default}
use Rattle.laws.specs.Lists.{anyb}
use Rattle.laws.proofs.Bools.{cond-by, cond-not}
use Rattle.refusal.specs.First.{is_taken, Answer}
use Rattle.refusal.proofs.FirstLaws.{answer-is-first, first_taken, taken_is}
use Rattle.services.specs.declared.Service.{Service}
use Rattle.services.specs.Exceptions.{days_on, excepted_of}
use Rattle.stops.specs.Answer.{id_wrong}
use Rattle.services.specs.Wrong.{span_wrong, exception_wrong}
use Rattle.week.specs.declared.Week.{Week}
use Rattle.week.specs.declared.Running.TheVariants.{Runs}
use Rattle.week.specs.Weeks.{is_dated, dates_in, blank_service, service_of, named, place_of, with_services, service_tests, service_answer}
use Rattle.week.specs.Weeks.{service_on}
use Rattle.week.specs.Weeks.{week_stepped, exception_tests, exception_answer, place_in, service_in, exception_on, running}
use Rattle.week.proofs.PlaceLaws.{place_found, found-at, find-is}

-- ---- service

-- what a taken service has passed
pub record ServicePassed (w : Week) (searched : Bool) (name : List ℕ) (start end : ℕ) : Type 0 where
  pub in_time : (searched || w.closed) ≡ false
  pub name_right : id_wrong name ≡ false
  pub new : anyb (named name) (take w.service_count w.services) ≡ false
  pub span_right : span_wrong start end ≡ false
  pub room : w.service_count < 64

module _ (w : Week) (searched : Bool) (name : List ℕ) (weekdays start end : ℕ) (a : Answer)
    (h : a ≡ service_answer w searched name start end) where
  pub service-passed : is_taken a ≡ true → ServicePassed w searched name start end
  unfolding service_tests
  service-passed e =
      let f =
      first_taken _ _ refl (answer-is-first (service_tests searched w.closed w.services w.service_count name start end))
      (sym h ∙ taken_is a e) in
      record { in_time = f.0; name_right = f.1.0; new = f.1.1.0; span_right = f.1.1.1.0; room = leb-false 64 w.service_count f.1.1.1.1.0 }

  pub service-taken : (s : Service) → is_taken a ≡ true → s ≡ service_of name weekdays start end
      → week_stepped a (with_services w (set w.services w.service_count s) (w.service_count + 1))
      ≡ service_on w searched name weekdays start end
  unfolding service_on
  service-taken s e q =
      let same : with_services w (set w.services w.service_count s) (w.service_count + 1)
      ≡ cond (is_taken (service_answer w searched name start end))
      (with_services w (set w.services w.service_count (service_of name weekdays start end)) (w.service_count + 1)) w =
      ap (λ (x : Service). with_services w (set w.services w.service_count x) (w.service_count + 1)) q
      ∙ sym (cond-by _ _ (ap is_taken (sym h) ∙ e)) in
      λ k. record { answer = h k; week = same k }

  pub service-refused : is_taken a ≡ false → week_stepped a w ≡ service_on w searched name weekdays start end
  unfolding service_on
  service-refused e =
      let same : w ≡ cond (is_taken (service_answer w searched name start end))
      (with_services w (set w.services w.service_count (service_of name weekdays start end)) (w.service_count + 1)) w =
      sym (cond-not _ _ (ap is_taken (sym h) ∙ e)) in
      λ k. record { answer = h k; week = same k }

-- ---- exception

pub record ExceptionPassed (w : Week) (searched : Bool) (name : List ℕ) (date kind : ℕ) : Type 0 where
  pub in_time : (searched || w.closed) ≡ false
  pub right : exception_wrong date kind ≡ false
  pub known : anyb (named name) (take w.service_count w.services) ≡ true

-- the place of a known service is one of the count's, and of the array's
pub place-below : (ss : List Service) (n : ℕ) (name : List ℕ) → anyb (named name) (take n ss) ≡ true
    → (place_of (named name) (take n ss) < n) × (place_of (named name) (take n ss) < length ss)
place-below ss n name e =
    let f : place_of (named name) (take n ss) < length (take n ss) = place_found (named name) (take n ss) e in
    (omega (arith, (simp length-take at f)), omega (arith, (simp length-take at f)))

-- the place that was found among the services taken
module _ (w : Week) (name : List ℕ) (at : ℕ) where
  module _ (xs : List Service) (e : xs ≡ take w.service_count w.services) (f : position_from (named name) 0 xs ≡ Some at) where
    found : (anyb (named name) (take w.service_count w.services) ≡ true) × (at ≡ place_in w name)
    found = found-at (named name) (take w.service_count w.services) at (ap (position_from (named name) 0) (sym e) ∙ f)

    pub found-place : at ≡ place_in w name
    found-place = found.1

    pub found-below : at < length w.services
    found-below = omega (arith, found-place, (place-below w.services w.service_count name found.0).1)

    -- the service there, whatever is read past the end
    pub found-service : (d : Service) → get_or w.services at d ≡ service_in w name
    found-service d =
        get_or_default w.services at d blank_service found-below ∙ ap (λ (n : ℕ). get_or w.services n blank_service) found-place

module _ (w : Week) (searched : Bool) (name : List ℕ) (date kind : ℕ) (a : Answer)
    (h : a ≡ exception_answer w searched name date kind) where
  pub exception-passed : is_taken a ≡ true → ExceptionPassed w searched name date kind
  unfolding exception_tests
  exception-passed e =
      let f =
      first_taken _ _ refl (answer-is-first (exception_tests searched w.closed w.services w.service_count name date kind))
      (sym h ∙ taken_is a e) in
      record { in_time = f.0; right = f.1.0; known = not-false _ f.1.1.0 }

  abbrev marked : ℕ → Service → Week
  marked at s = with_services w (set w.services at s) w.service_count

  pub exception-taken : (at : ℕ) (old s : Service) (days : ℕ) → is_taken a ≡ true → at ≡ place_in w name → old ≡ service_in w name
      → days ≡ days_on (dates_in w) date → s ≡ excepted_of old days kind
      → week_stepped a (marked at s) ≡ exception_on w searched name date kind
  unfolding exception_on
  exception-taken at old s days e pe oe de q =
      let new : s ≡ excepted_of (service_in w name) (days_on (dates_in w) date) kind = q ∙ (λ k. excepted_of (oe k) (de k) kind) in
      let same : marked at s ≡ cond (is_taken (exception_answer w searched name date kind))
      (marked (place_in w name) (excepted_of (service_in w name) (days_on (dates_in w) date) kind)) w =
      (λ k. marked (pe k) (new k)) ∙ sym (cond-by _ _ (ap is_taken (sym h) ∙ e)) in
      λ k. record { answer = h k; week = same k }

  pub exception-refused : is_taken a ≡ false → week_stepped a w ≡ exception_on w searched name date kind
  unfolding exception_on
  exception-refused e =
      let same : w ≡ cond (is_taken (exception_answer w searched name date kind))
      (marked (place_in w name) (excepted_of (service_in w name) (days_on (dates_in w) date) kind)) w =
      sym (cond-not _ _ (ap is_taken (sym h) ∙ e)) in
      λ k. record { answer = h k; week = same k }

-- ---- call

-- the first service taken that has the name
module _ (w : Week) (name : List ℕ) where
  abbrev taken : List Service
  taken = take w.service_count w.services

  pub found-in : find (named name) taken ≡ cond (anyb (named name) taken) (Some (service_in w name)) None
  found-in = find-is (named name) blank_service taken ∙ go (anyb (named name) taken) refl
    where
      go : (b : Bool) → anyb (named name) taken ≡ b
          → cond b (Some (get_or taken (place_in w name) blank_service)) None ≡ cond b (Some (service_in w name)) None
      go false e = refl
      go true e =
          let below = (place-below w.services w.service_count name e).0 in
          ap Some (get_or-take w.service_count w.services (place_in w name) blank_service below)

module _ (w : Week) (name : List ℕ) (day : ℕ) where
  pub runs-undated : is_dated w ≡ false → Runs ≡ running w name day
  unfolding running
  runs-undated e = sym (cond-not _ _ e)
