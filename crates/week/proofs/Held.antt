-- The tests of a service and of an exception by the services of a week, which are the first of its array; the week that a service leaves.
use Prim.Native.Nat.{ℕ, ◌+◌, ◌<◌}
use mathlib.Core.Path.{◌≡◌, refl, sym, ap, ◌∙◌}
use mathlib.Core.Bool.{Bool, true, false}
use mathlib.Core.List.{List}
use lib.ListN.{length, take, set}
use Rattle.laws.proofs.Prefixes.{all-taken, full-taken}
use Rattle.refusal.specs.First.{first_answer, is_taken, Answer}
use Rattle.services.specs.declared.Service.{Service}
use Rattle.week.specs.declared.Week.{Week}
use Rattle.week.specs.Weeks.{service_of, with_services, week_stepped, service_tests, service_answer, service_on, exception_tests}
use Rattle.week.specs.Weeks.{exception_answer}
use Rattle.week.proofs.StepLaws.{service-passed, service-taken, service-refused}

module _ (n : ℕ) (ss : List Service) (b c : Bool) (name : List ℕ) where
  service-tests : length ss ≡ 64 → (start end : ℕ)
      → service_tests b c (take n ss) (length (take n ss)) name start end ≡ service_tests b c ss n name start end
  unfolding service_tests
  service-tests long start end = rw (all-taken n ss, full-taken n ss 64 long) refl

  exception-tests : (date kind : ℕ)
      → exception_tests b c (take n ss) (length (take n ss)) name date kind ≡ exception_tests b c ss n name date kind
  unfolding exception_tests
  exception-tests date kind = rw (all-taken n ss) refl

module _ (w : Week) (xs : List Service) (e : xs ≡ take w.service_count w.services) (b : Bool) (name : List ℕ) (a : Answer) where
  service-answered : length w.services ≡ 64 → (start end : ℕ)
      → a ≡ first_answer (service_tests b w.closed xs (length xs) name start end) → a ≡ service_answer w b name start end
  service-answered long start end q =
      q ∙ ap (λ (ys : List Service). first_answer (service_tests b w.closed ys (length ys) name start end)) e
      ∙ ap first_answer (service-tests w.service_count w.services b w.closed name long start end)

  pub exception-answered : (date kind : ℕ) → a ≡ first_answer (exception_tests b w.closed xs (length xs) name date kind)
      → a ≡ exception_answer w b name date kind
  exception-answered date kind q =
      q ∙ ap (λ (ys : List Service). first_answer (exception_tests b w.closed ys (length ys) name date kind)) e
      ∙ ap first_answer (exception-tests w.service_count w.services b w.closed name date kind)

module _ (w : Week) {xs : List Service} (b : Bool) (name : List ℕ) (weekdays start end : ℕ) {a : Answer} {t : Bool}
    (long : length w.services ≡ 64) (xs-is : xs ≡ take w.service_count w.services)
    (a-is : a ≡ first_answer (service_tests b w.closed xs (length xs) name start end)) (t-is : t ≡ is_taken a) where
  answered : a ≡ service_answer w b name start end
  answered = service-answered w xs xs-is b name a long start end a-is

  pub service-fits : t ≡ true → w.service_count < 64
  service-fits e = (service-passed w b name weekdays start end a answered (sym t-is ∙ e)).room

  pub service-stored : {s : Service} → s ≡ service_of name weekdays start end → t ≡ true
      → week_stepped a (with_services w (set w.services w.service_count s) (w.service_count + 1)) ≡ service_on w b name weekdays start end
  service-stored {s} s-is e = service-taken w b name weekdays start end a answered s (sym t-is ∙ e) s-is

  pub service-left : t ≡ false → week_stepped a w ≡ service_on w b name weekdays start end
  service-left e = service-refused w b name weekdays start end a answered (sym t-is ∙ e)
