-- "What the list must hold is read over the calls of running services".
use Rattle.refusal.specs.First.{Answer}
use Rattle.std.specs.Prelude.{Some}
use mathlib.Core.Path.{◌≡◌, refl, sym, ap, subst, ◌∙◌}
use mathlib.Core.Bool.{Bool, true, false}
use mathlib.Core.List.Permᴰ
use mathlib.Core.List.{List, Memᴰ}
use Prim.Native.Nat.{ℕ, ◌≤◌}
use Rattle.laws.proofs.Sort.{perm-mem}
use Rattle.settings.specs.declared.Settings.{Settings}
use Rattle.calls.specs.declared.CallInput.{CallInput}
use Rattle.week.specs.declared.Week.{Week}
use Rattle.load.specs.declared.Load.{Load}
use Rattle.load.specs.Steps.{opened}
use Rattle.load.specs.FillStep.{FillStep, call}
use Rattle.again.specs.Again.{unsearched_of}
use Rattle.steps.specs.Steps.{Step}
use Rattle.steps.specs.Lists.{end_of}
use Rattle.steps.proofs.ShownLaws.{raw_earlier}
use Rattle.comparison.specs.Taken.{calls_in, State, fresh}
use Rattle.comparison.specs.Services.{Running}
use Rattle.comparison.specs.Runs.{Again, in_full, within, After, sent_back, a_stop, a_rule, a_call, resting, outside, a_service}
use Rattle.comparison.specs.Runs.{an_exception, a_withdrawal, a_search, a_limited, Runs, end, step}
use Rattle.comparison.specs.Demands.{answers_from, OnlyRunning}
use Rattle.std.specs.Option.{is_some}
use Rattle.comparison.proofs.WeekLaws.{WeekHeld, runs_by}
use Rattle.comparison.proofs.AfterLaws.{call-in}
use Rattle.comparison.proofs.RunningLaws.{CallsRun}
use Rattle.comparison.proofs.StartLaws.{Start}
use Rattle.comparison.proofs.AsideLaws.{beside_back, apart, apart-like, week-beside}
use Rattle.comparison.proofs.DemandLaws.{whole, ending, run, ends_so}
use Rattle.week.specs.Weeks.{is_dated, dates_in}

-- the dates are those of the opening
again-dates : {s : Settings} {t u : State} → Again s t u → u.dates ≡ t.dates
again-dates (in_full e) = refl
again-dates (within {finishes = true} e w) = refl
again-dates (within {finishes = false} e w) = refl

dates-after : (s : Settings) (t u : State) (x : Step) (a : Answer) → After s t x a u → u.dates ≡ t.dates
dates-after s t _ _ _ sent_back = refl
dates-after s t _ _ _ a_stop = refl
dates-after s t _ _ _ a_rule = refl
dates-after s t _ _ _ (a_call f g) = again-dates g
dates-after s t _ _ _ (resting r) = refl
dates-after s t _ _ _ (outside n f g) = again-dates g
dates-after s t _ _ _ a_service = refl
dates-after s t _ _ _ an_exception = refl
dates-after s t _ _ _ (a_withdrawal w g) = again-dates g ∙ ap (λ (v : State). v.dates) w.left
dates-after s t _ _ _ a_search = refl
dates-after s t _ _ _ (a_limited {finishes = true} w) = refl
dates-after s t _ _ _ (a_limited {finishes = false} w) = refl

dates-kept : (s : Settings) (t v : State) (xs : List Step) (rs : List Answer) → Runs s t xs rs v → v.dates ≡ t.dates
dates-kept s t _ _ _ end = refl
dates-kept s t v _ _ (step {u = u} {x = x} {a = a} f g r) = dates-kept s u v _ _ r ∙ dates-after s t u x a g

dated-so : (w : Week) (dates : List ℕ) → w.dates ≡ Some dates → is_dated w ≡ true
dated-so w dates e = ap is_some e

-- of a load that holds what was taken
stands-runs : (q : Load) (v : State) → WeekHeld q.week v.taken → ((j : CallInput) → Memᴰ j (calls_in v.taken) → j.day ≤ 2)
    → CallsRun q v.taken → v.dates ≡ q.week.dates
    → (dates : List ℕ) → v.dates ≡ Some dates → (name : List ℕ) (i : CallInput) → Memᴰ (call name i) v.taken → Running v name i.day
stands-runs q v w days r d dates e name i m =
    let dt = dated-so q.week dates (sym d ∙ e) in
    runs_by w v refl d name i.day dt (days i (call-in v.taken name i m)) (r dt name i m).1

-- of a searched load, by its unsearched one
apart-week : (s : Settings) (l : Load) (fs : List FillStep) → Start s (unsearched_of l) (apart fs)
    → WeekHeld l.week fs × ((j : CallInput) → Memᴰ j (calls_in fs) → j.day ≤ 2)
unfolding unsearched_of
apart-week s l fs w = (
  week-beside l.week fs (apart fs) (beside_back (apart-like fs).beside) w.held.week,
  λ j m.
      w.held.days j (perm-mem raw_earlier (Permᴰ.symm (apart-like fs).calls) m),
)

pub only-running : OnlyRunning
only-running s xs rs v o w dates e name i m =
    let q = ends_so s o xs rs v w in
    let so : (ending s o xs).dates ≡ Some dates = dates-kept s.settings (fresh s.dates) (ending s o xs) xs (answers_from (opened s) xs)
    (run s o xs) ∙ e in
    subst (λ (t : State). Running t name i.day) q
    (go (end_of s xs).searched refl so (subst (λ (t : State). Memᴰ (call name i) t.taken) (sym q) m))
  where
    go : (b : Bool) → (end_of s xs).searched ≡ b → (ending s o xs).dates ≡ Some dates → Memᴰ (call name i) (ending s o xs).taken
        → Running (ending s o xs) name i.day
    go true d so k =
        let (h, ds) = apart-week s.settings (end_of s xs) (whole s o xs).taken ((whole s o xs).stands.done d) in
        stands-runs (end_of s xs) (ending s o xs) h ds (whole s o xs).stands.runs refl dates so name i k
    go false d so k =
        let z = (whole s o xs).stands.new d in
        stands-runs (end_of s xs) (ending s o xs) z.held.week z.held.days (whole s o xs).stands.runs refl dates so name i k
