-- When a service runs: the marks that a week holds say what the exceptions taken say.
use Prim.Native.Nat.{ℕ, zero, suc, ◌/◌, ◌%◌, ◌^◌, ◌≤◌, ◌<◌}
use mathlib.Core.Path.{◌≡◌, refl, sym, ap, ◌∙◌}
use mathlib.Core.Logic.{◌⊎◌, inl, inr, ◌↔◌}
use mathlib.Core.Bool.{Bool, true, false, cond, ◌&&◌, true≢false, false≢true}
use mathlib.Core.List.Memᴰ
use mathlib.Core.List.{List, [], ◌∷◌, ◌++◌, append-nil, Memᴰ}
use native.Mathlib.Omega.{arith}
use lib.Dec.{eqb, leb}
use lib.ListN.{length, get_or}
use borrow.Author.Tests.{eqb-true, eq-eqb, leb-true, leb-false}
use Rattle.laws.specs.Bits.{digit}
use Rattle.laws.specs.Lists.{anyb}
use Rattle.laws.proofs.Bools.{or-true-cases, or-true-left, or_true_right, and-true, and-true-left, and-true-right, not-true}
use Rattle.laws.proofs.Folds.{foldl-append}
use Rattle.calendar.specs.Dates.{weekday_of}
use Rattle.services.specs.declared.Service.{Service}
use Rattle.services.specs.Runs.{runs_of}
use Rattle.services.specs.Exceptions.{Exception, adds, removes, runs_with, days_on, excepted_of, after_all}
use Rattle.services.specs.Promises as promises
use Rattle.services.proofs.Digits.{digit-past}
use Rattle.services.proofs.Marks.{folded, runs-when}
use Rattle.stops.specs.Texts.{same_bytes_of}
use Rattle.texts.proofs.Laws.{read-whole}
use Rattle.week.specs.Weeks.{service_of, name_of, named}
use Rattle.load.specs.FillStep.{FillStep, stop, call, rule, service, exception}
use Rattle.comparison.specs.Taken.{ServiceGiven}
use Rattle.comparison.specs.Services.{InWeek, RunsOn}
use Rattle.comparison.proofs.NthLaws.{bytes_same, same_bytes}
use Rattle.comparison.proofs.SettingLaws.{digit_set, set-digit}

-- of what was taken, the exceptions to the service of the name
abbrev pub exceptions_of : List ℕ → List FillStep → List Exception
exceptions_of n [] = []
exceptions_of n (stop id name parent i ∷ xs) = exceptions_of n xs
exceptions_of n (call name i ∷ xs) = exceptions_of n xs
exceptions_of n (rule i ∷ xs) = exceptions_of n xs
exceptions_of n (service name weekdays start end ∷ xs) = exceptions_of n xs
exceptions_of n (exception name date kind ∷ xs) =
    cond (same_bytes_of n name) (record { date = date; kind = kind } ∷ exceptions_of n xs) (exceptions_of n xs)

pub exceptions-append : (n : List ℕ) (fs gs : List FillStep) → exceptions_of n (fs ++ gs) ≡ exceptions_of n fs ++ exceptions_of n gs
exceptions-append n [] gs = refl
exceptions-append n (stop id name parent i ∷ fs) gs = exceptions-append n fs gs
exceptions-append n (call name i ∷ fs) gs = exceptions-append n fs gs
exceptions-append n (rule i ∷ fs) gs = exceptions-append n fs gs
exceptions-append n (service name weekdays start end ∷ fs) gs = exceptions-append n fs gs
exceptions-append n (exception name date kind ∷ fs) gs = go (same_bytes_of n name) (exceptions-append n fs gs)
  where
    go : (b : Bool) → exceptions_of n (fs ++ gs) ≡ exceptions_of n fs ++ exceptions_of n gs
        → cond b (record { date = date; kind = kind } ∷ exceptions_of n (fs ++ gs)) (exceptions_of n (fs ++ gs))
        ≡ cond b (record { date = date; kind = kind } ∷ exceptions_of n fs) (exceptions_of n fs) ++ exceptions_of n gs
    go true e = ap {B = List Exception} (λ r. record { date = date; kind = kind } ∷ r) e
    go false e = e

-- the service as the week holds it
unfoldable pub held_service : List ℕ → List FillStep → ServiceGiven → Service
held_service dates fs g = after_all dates (service_of g.name g.weekdays g.start g.end) (exceptions_of g.name fs)

-- exceptions keep the name
name-kept : (dates : List ℕ) (s : Service) (xs : List Exception) → name_of (after_all dates s xs) ≡ name_of s
unfolding after_all excepted_of
name-kept dates s [] = refl
name-kept dates s (x ∷ xs) = name-kept dates (excepted_of s (days_on dates x.date) x.kind) xs

new-name : (name : List ℕ) (weekdays start end : ℕ) → length name ≤ 32 → name_of (service_of name weekdays start end) ≡ name
unfolding service_of
new-name name weekdays start end h = read-whole 32 name h (omega arith)

pub held-name : (dates : List ℕ) (fs : List FillStep) (g : ServiceGiven) → length g.name ≤ 32 → name_of (held_service dates fs g) ≡ g.name
unfolding held_service
held-name dates fs g h = name-kept dates (service_of g.name g.weekdays g.start g.end) (exceptions_of g.name fs)
    ∙ new-name g.name g.weekdays g.start g.end h

-- the service has the name
abbrev pub given : List ℕ → ServiceGiven → Bool
given n g = same_bytes_of g.name n

pub held-named : (dates : List ℕ) (fs : List FillStep) (n : List ℕ) (g : ServiceGiven) → length g.name ≤ 32
    → named n (held_service dates fs g) ≡ given n g
held-named dates fs n g h = ap (λ (x : List ℕ). same_bytes_of x n) (held-name dates fs g h)

-- ---- after one more

-- nothing of the service
pub held_same : (dates : List ℕ) (fs : List FillStep) (x : FillStep) (g : ServiceGiven) → exceptions_of g.name (x ∷ []) ≡ []
    → held_service dates (fs ++ x ∷ []) g ≡ held_service dates fs g
unfolding held_service
held_same dates fs x g e =
    ap (after_all dates (service_of g.name g.weekdays g.start g.end))
    (exceptions-append g.name fs (x ∷ []) ∙ ap (λ (r : List Exception). exceptions_of g.name fs ++ r) e
    ∙ append-nil (exceptions_of g.name fs))

after-snoc : (dates : List ℕ) (s : Service) (xs : List Exception) (x : Exception)
    → after_all dates s (xs ++ x ∷ []) ≡ excepted_of (after_all dates s xs) (days_on dates x.date) x.kind
unfolding after_all
after-snoc dates s xs x = foldl-append _ s xs (x ∷ [])

-- an exception to it
pub held-excepted : (dates : List ℕ) (fs : List FillStep) (name : List ℕ) (date kind : ℕ) (g : ServiceGiven) → given name g ≡ true
    → held_service dates (fs ++ exception name date kind ∷ []) g ≡ excepted_of (held_service dates fs g) (days_on dates date) kind
unfolding held_service
held-excepted dates fs name date kind g e =
    ap (after_all dates (service_of g.name g.weekdays g.start g.end))
    (exceptions-append g.name fs (exception name date kind ∷ [])
    ∙ ap (λ (b : Bool). exceptions_of g.name fs ++ cond b (record { date = date; kind = kind } ∷ []) []) e)
    ∙ after-snoc dates (service_of g.name g.weekdays g.start g.end) (exceptions_of g.name fs) (record { date = date; kind = kind })

-- no exception yet
pub held_new : (dates : List ℕ) (fs : List FillStep) (g : ServiceGiven) → exceptions_of g.name fs ≡ []
    → held_service dates fs g ≡ service_of g.name g.weekdays g.start g.end
unfolding held_service after_all
held_new dates fs g e = ap (after_all dates (service_of g.name g.weekdays g.start g.end)) e

-- ---- exceptions by their dates

abbrev name_in : FillStep → List ℕ
name_in (stop id name parent i) = []
name_in (call name i) = []
name_in (rule i) = []
name_in (service name weekdays start end) = []
name_in (exception name date kind) = name

abbrev date_in : FillStep → ℕ
date_in (stop id name parent i) = 0
date_in (call name i) = 0
date_in (rule i) = 0
date_in (service name weekdays start end) = 0
date_in (exception name date kind) = date

abbrev kind_in : FillStep → ℕ
kind_in (stop id name parent i) = 0
kind_in (call name i) = 0
kind_in (rule i) = 0
kind_in (service name weekdays start end) = 0
kind_in (exception name date kind) = kind

abbrev is_so : ℕ → ℕ → Exception → Bool
is_so date kind x = eqb x.date date && eqb x.kind kind

-- the exception is there exactly if one of the name's has its date and kind
module _ (n : List ℕ) (date kind : ℕ) where
  abbrev one : FillStep
  one = exception n date kind

  -- which is no step of another kind
  here : (x : FillStep) (fs : List FillStep) → (one ≡ x → ⊥) → Memᴰ one (x ∷ fs) → Memᴰ one fs
  here x fs f m = go (Memᴰ.cases_cons m)
    where
      go : (one ≡ x) ⊎ Memᴰ one fs → Memᴰ one fs
      go (inl e) = absurd (f e)
      go (inr m) = m

  pub there : (fs : List FillStep) → Memᴰ one fs → anyb (is_so date kind) (exceptions_of n fs) ≡ true
  there [] m = absurd (Memᴰ.not-nil m)
  there (stop id name parent i ∷ fs) m = there fs (here _ fs (λ e. cc) m)
  there (call name i ∷ fs) m = there fs (here _ fs (λ e. cc) m)
  there (rule i ∷ fs) m = there fs (here _ fs (λ e. cc) m)
  there (service name weekdays start end ∷ fs) m = there fs (here _ fs (λ e. cc) m)
  there (exception name d k ∷ fs) m = go (same_bytes_of n name) refl (Memᴰ.cases_cons m) (there fs)
    where
      go : (b : Bool) → same_bytes_of n name ≡ b → (one ≡ exception name d k) ⊎ Memᴰ one fs
          → (Memᴰ one fs → anyb (is_so date kind) (exceptions_of n fs) ≡ true)
          → anyb (is_so date kind) (cond b (record { date = d; kind = k } ∷ exceptions_of n fs) (exceptions_of n fs)) ≡ true
      go true q (inl e) ih = or-true-left _ _ (and-true _ _ (eq-eqb d date (sym (ap date_in e))) (eq-eqb k kind (sym (ap kind_in e))))
      go true q (inr m) ih = or_true_right (is_so date kind (record { date = d; kind = k })) _ (ih m)
      go false q (inl e) ih = absurd (true≢false (sym (ap (same_bytes_of n) (sym (ap name_in e)) ∙ same_bytes n) ∙ q))
      go false q (inr m) ih = ih m

  pub from : (fs : List FillStep) → anyb (is_so date kind) (exceptions_of n fs) ≡ true → Memᴰ one fs
  from [] e = absurd (false≢true e)
  from (stop id name parent i ∷ fs) e = Memᴰ.tail (from fs e)
  from (call name i ∷ fs) e = Memᴰ.tail (from fs e)
  from (rule i ∷ fs) e = Memᴰ.tail (from fs e)
  from (service name weekdays start end ∷ fs) e = Memᴰ.tail (from fs e)
  from (exception name d k ∷ fs) e = go (same_bytes_of n name) refl e (from fs)
    where
      go : (b : Bool) → same_bytes_of n name ≡ b → anyb (is_so date kind)
          (cond b (record { date = d; kind = k } ∷ exceptions_of n fs) (exceptions_of n fs)) ≡ true
          → (anyb (is_so date kind) (exceptions_of n fs) ≡ true → Memᴰ one fs) → Memᴰ one (exception name d k ∷ fs)
      go false q e ih = Memᴰ.tail (ih e)
      go true q e ih = by (or-true-cases (is_so date kind (record { date = d; kind = k })) (anyb (is_so date kind) (exceptions_of n fs)) e)
        where
          by : (is_so date kind (record { date = d; kind = k }) ≡ true) ⊎ (anyb (is_so date kind) (exceptions_of n fs) ≡ true)
              → Memᴰ one (exception name d k ∷ fs)
          by (inl t) =
              let a : d ≡ date = eqb-true d date (and-true-left (eqb d date) (eqb k kind) t) in
              let b : k ≡ kind = eqb-true k kind (and-true-right (eqb d date) (eqb k kind) t) in
              Memᴰ.head (λ j. exception (bytes_same n name q j) (sym a j) (sym b j))
          by (inr t) = Memᴰ.tail (ih t)

-- ---- the week

low-digits : (k m : ℕ) → k ≤ 6 → m % 128 / 2 ^ k % 2 ≡ m / 2 ^ k % 2
low-digits zero m h = omega arith
low-digits (suc zero) m h = omega arith
low-digits (suc (suc zero)) m h = omega arith
low-digits (suc (suc (suc zero))) m h = omega arith
low-digits (suc (suc (suc (suc zero)))) m h = omega arith
low-digits (suc (suc (suc (suc (suc zero))))) m h = omega arith
low-digits (suc (suc (suc (suc (suc (suc zero)))))) m h = omega arith
low-digits (suc (suc (suc (suc (suc (suc (suc k))))))) m h = absurd (omega arith)

-- a digit of seven marks is one of the first seven
marked-low : (k m : ℕ) → digit k (m % 128) ≡ true → k ≤ 6
marked-low k m e = go (leb k 6) refl
  where
    go : (b : Bool) → leb k 6 ≡ b → k ≤ 6
    go true q = leb-true k 6 q
    go false q = absurd (true≢false (sym e ∙ digit-past 7 k (m % 128) (omega arith) (leb-false k 6 q)))

pub in-week : (g : ServiceGiven) (date : ℕ) → ((digit (weekday_of date) (g.weekdays % 128) ≡ true) × (g.start ≤ date) × (date ≤ g.end)) ↔
    InWeek g date
in-week g date = (to, back)
  where
    to : (digit (weekday_of date) (g.weekdays % 128) ≡ true) × (g.start ≤ date) × (date ≤ g.end) → InWeek g date
    to (e, a, b) =
        let low = marked-low (weekday_of date) g.weekdays e in
        record {
          weekday = low;
          marked = sym (low-digits (weekday_of date) g.weekdays low)
              ∙ digit_set (weekday_of date) (g.weekdays % 128) e;
          from = a;
          to = b;
        }

    back : InWeek g date → (digit (weekday_of date) (g.weekdays % 128) ≡ true) × (g.start ≤ date) × (date ≤ g.end)
    back w = (set-digit (weekday_of date) (g.weekdays % 128) (low-digits (weekday_of date) g.weekdays w.weekday ∙ w.marked), w.from, w.to)

-- ---- runs

module _ (fs : List FillStep) (g : ServiceGiven) (date : ℕ) where
  abbrev xs : List Exception
  xs = exceptions_of g.name fs

  removed-is : anyb (removes date) xs ≡ anyb (is_so date 2) xs
  unfolding removes
  removed-is = refl

  added_is : anyb (adds date) xs ≡ anyb (is_so date 1) xs
  unfolding adds
  added_is = refl

  runs-in : promises.Runs (g.weekdays % 128) g.start g.end xs date → RunsOn fs g date
  runs-in w = record {
    not_removed = λ m. true≢false (sym (there g.name date 2 fs m) ∙ sym removed-is ∙ w.not_removed);
    wanted = go w.wanted;
  }
    where
      go : (anyb (adds date) xs ≡ true) ⊎ ((digit (weekday_of date) (g.weekdays % 128) ≡ true) × (g.start ≤ date) × (date ≤ g.end))
          → Memᴰ (exception g.name date 1) fs ⊎ InWeek g date
      go (inl e) = inl (from g.name date 1 fs (sym added_is ∙ e))
      go (inr e) = inr ((in-week g date).0 e)

  runs-out : RunsOn fs g date → promises.Runs (g.weekdays % 128) g.start g.end xs date
  runs-out w = record {
    not_removed = removed-is ∙ not-true (anyb (is_so date 2) xs) (λ e. w.not_removed (from g.name date 2 fs e));
    wanted = go w.wanted;
  }
    where
      go : Memᴰ (exception g.name date 1) fs ⊎ InWeek g date
          → (anyb (adds date) xs ≡ true) ⊎ ((digit (weekday_of date) (g.weekdays % 128) ≡ true) × (g.start ≤ date) × (date ≤ g.end))
      go (inl m) = inl (added_is ∙ there g.name date 1 fs m)
      go (inr e) = inr ((in-week g date).1 e)

new-fresh : (name : List ℕ) (weekdays start end : ℕ) → promises.Fresh (service_of name weekdays start end)
unfolding service_of
new-fresh name weekdays start end = record { none_added = refl; none_removed = refl }

-- the service that is held runs on the load's day k exactly if it does by what was taken
held-runs-with : (dates : List ℕ) (fs : List FillStep) (g : ServiceGiven) (k : ℕ) → k < length dates
    → runs_of (held_service dates fs g) k (get_or dates k 0)
    ≡ runs_with (g.weekdays % 128) g.start g.end (exceptions_of g.name fs) (get_or dates k 0)
unfolding held_service service_of
held-runs-with dates fs g k h = folded dates (service_of g.name g.weekdays g.start g.end) (exceptions_of g.name fs) k
    (new-fresh g.name g.weekdays g.start g.end) h

pub held-runs : (dates : List ℕ) (fs : List FillStep) (g : ServiceGiven) (k : ℕ) → k < length dates
    → (runs_of (held_service dates fs g) k (get_or dates k 0) ≡ true) ↔ RunsOn fs g (get_or dates k 0)
held-runs dates fs g k h =
    let r = runs-when (g.weekdays % 128) g.start g.end (exceptions_of g.name fs) (get_or dates k 0) in
    let e = held-runs-with dates fs g k h in
    (λ t. runs-in fs g (get_or dates k 0) (r.0 (sym e ∙ t)), λ v. e ∙ r.1 (runs-out fs g (get_or dates k 0) v))
