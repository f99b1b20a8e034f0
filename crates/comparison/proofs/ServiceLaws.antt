-- The program's tests of a service and an exception decide the causes, where the load holds what was taken.
use Prim.Native.Nat.{ℕ, ◌≤◌}
use mathlib.Core.Path.{◌≡◌, refl, sym, ap, subst, ◌∙◌}
use mathlib.Core.Logic.{◌⊎◌, inl, inr}
use mathlib.Core.Bool.{true, not, ◌||◌, true≢false}
use mathlib.Core.List.{List}
use native.Mathlib.Omega.{arith}
use lib.Dec.{leb, ltb, eqb}
use lib.ListN.{length, take, length-map, length-take}
use borrow.Author.Tests.{eqb-true, eq-eqb}
use Rattle.laws.specs.Lists.{anyb}
use Rattle.laws.proofs.Bools.{not-true, or-true-cases, or-true-left, or_true_right, of-not}
use Rattle.settings.specs.declared.Settings.{Settings}
use Rattle.stops.specs.Answer.{id_wrong}
use Rattle.load.specs.declared.Load.{Load}
use Rattle.calendar.specs.Dates.{is_date}
use Rattle.services.specs.Wrong.{span_wrong, exception_wrong}
use Rattle.week.specs.Weeks.{named, service_tests, exception_tests}
use Rattle.load.specs.FillStep.{FillStep}
use Rattle.comparison.specs.Taken.{services_in}
use Rattle.comparison.specs.Services.{Named}
use Rattle.comparison.specs.Causes.{Late, service_causes, exception_causes}
use Rattle.comparison.proofs.Deciding.{Decides, Matches, dec-ltb, dec-leb, dec-eqb, dec-is, dec-or}
use Rattle.comparison.proofs.WeekLaws.{dec-named}
use Rattle.comparison.proofs.StartLaws.{Start, state_at}
use Rattle.comparison.proofs.CauseLaws.{dec-date}

module _ (s : Settings) (l : Load) (fs : List FillStep) (w : Start s l fs) where
  service-count : l.week.service_count ≡ length (services_in fs)
  service-count =
      let h : length (take l.week.service_count l.week.services) ≡ l.week.service_count =
      simp length-take (omega (arith, w.sound.week.few, w.sound.week.long)) in
      sym h ∙ ap length w.held.week.services ∙ length-map (services_in fs) _

  dec-late : Decides (l.searched || l.week.closed) (Late (state_at l fs))
  dec-late = dec-or l.searched l.week.closed (dec-is l.searched) (dec-is l.week.closed)

  pub service-match : (name : List ℕ) (start end : ℕ)
      → Matches (service_tests l.searched l.week.closed l.week.services l.week.service_count name start end)
      (service_causes (state_at l fs) name start end)
  unfolding service_tests id_wrong span_wrong
  service-match name start end = (
    refl,
    dec-late,
    λ a. (
      refl,
      dec-or (eqb (length name) 0) (ltb 32 (length name)) (dec-eqb (length name) 0) (dec-ltb 32 (length name)),
      λ b. (
        refl,
        dec-named w.held.week name,
        λ c. (
          refl,
          dec-or (not (is_date start)) (not (is_date end)) (dec-date start) (dec-date end),
          λ d. (
            refl,
            subst (λ (k : ℕ). Decides (leb 64 l.week.service_count) (64 ≤ k)) service-count (dec-leb 64 l.week.service_count),
            λ e. tt,
          ),
        ),
      ),
    ),
  )

  dec-kind : (kind : ℕ) → Decides (not (eqb kind 1 || eqb kind 2)) ((kind ≡ 1 → ⊥) × (kind ≡ 2 → ⊥))
  dec-kind kind = (
    λ e. let f = of-not (eqb kind 1 || eqb kind 2) e in (
      λ q. true≢false (sym (or-true-left (eqb kind 1) (eqb kind 2) (eq-eqb kind 1 q)) ∙ f),
      λ q. true≢false (sym (or_true_right (eqb kind 1) (eqb kind 2) (eq-eqb kind 2 q)) ∙ f),
    ),
    λ (a, b). ap not (not-true (eqb kind 1 || eqb kind 2) (λ e. either a b (or-true-cases (eqb kind 1) (eqb kind 2) e))),
  )
    where
      either : (kind ≡ 1 → ⊥) → (kind ≡ 2 → ⊥) → (eqb kind 1 ≡ true) ⊎ (eqb kind 2 ≡ true) → ⊥
      either a b (inl e) = a (eqb-true kind 1 e)
      either a b (inr e) = b (eqb-true kind 2 e)

  dec-unnamed : (name : List ℕ) → Decides (not (anyb (named name) (take l.week.service_count l.week.services))) (Named fs name → ⊥)
  dec-unnamed name =
      let d = dec-named w.held.week name in
      let b = anyb (named name) (take l.week.service_count l.week.services) in
      (λ e x. true≢false (sym (d.1 x) ∙ of-not b e), λ f. ap not (not-true b (λ e. f (d.0 e))))

  pub exception-match : (name : List ℕ) (date kind : ℕ)
      → Matches (exception_tests l.searched l.week.closed l.week.services l.week.service_count name date kind)
      (exception_causes (state_at l fs) name date kind)
  unfolding exception_tests exception_wrong
  exception-match name date kind = (
    refl,
    dec-late,
    λ a. (
      refl,
      dec-or (not (is_date date)) (not (eqb kind 1 || eqb kind 2)) (dec-date date) (dec-kind kind),
      λ b. (refl, dec-unnamed name, λ c. tt),
    ),
  )
