-- What a step leaves taken, by its answer.
use Prim.Native.Nat.{ℕ}
use mathlib.Core.Path.{◌≡◌, ap}
use mathlib.Core.Logic.{◌⊎◌, inl, inr}
use mathlib.Core.Bool.{Bool, true, false, cond}
use mathlib.Core.List.Memᴰ
use mathlib.Core.List.{List, [], ◌∷◌, ◌++◌, Memᴰ}
use Rattle.laws.specs.Lists.{anyb}
use Rattle.refusal.specs.First.{is_taken}
use Rattle.settings.specs.declared.Settings.{Settings}
use Rattle.calls.specs.declared.CallInput.{CallInput}
use Rattle.calls.specs.declared.CallKey.{CallKey}
use Rattle.withdrawal.specs.Removal.{without_last, named_in}
use Rattle.load.specs.declared.Load.{Load}
use Rattle.load.specs.FillStep.{FillStep, stop, call, rule, service, exception}
use Rattle.steps.specs.Steps.{Step, filling, withdraw, search, limited, stepped}
use Rattle.comparison.specs.Taken.{calls_in}

-- a call with the key that is in the table
abbrev pub named_filling : Settings → ℕ → CallKey → FillStep → Bool
named_filling s h k (stop id name parent i) = false
named_filling s h k (call name i) = named_in s h k i
named_filling s h k (rule i) = false
named_filling s h k (service name weekdays start end) = false
named_filling s h k (exception name date kind) = false

abbrev pub taken_after : Load → Step → List FillStep → List FillStep
taken_after l (filling x) fs = fs ++ cond (is_taken (stepped l (filling x)).answer) (x ∷ []) []
taken_after l (withdraw k) fs = cond (is_taken (stepped l (withdraw k)).answer)
    (without_last (named_filling l.settings l.table_horizon k) fs) fs
taken_after l search fs = fs
taken_after l (limited n) fs = fs

abbrev pub name_in : FillStep → List ℕ
name_in (stop id name parent i) = []
name_in (call name i) = name
name_in (rule i) = []
name_in (service name weekdays start end) = []
name_in (exception name date kind) = []

abbrev pub input_in : CallInput → FillStep → CallInput
input_in d (stop id name parent i) = d
input_in d (call name i) = i
input_in d (rule i) = d
input_in d (service name weekdays start end) = d
input_in d (exception name date kind) = d

-- a call taken is one of the calls
pub call-in : (fs : List FillStep) (name : List ℕ) (i : CallInput) → Memᴰ (call name i) fs → Memᴰ i (calls_in fs)
call-in [] name i m = absurd (Memᴰ.not-nil m)
call-in (x ∷ fs) name i m = go x (Memᴰ.cases_cons m) (call-in fs name i)
  where
    go : (x : FillStep) → (call name i ≡ x) ⊎ Memᴰ (call name i) fs → (Memᴰ (call name i) fs → Memᴰ i (calls_in fs))
        → Memᴰ i (calls_in (x ∷ fs))
    go (call n j) (inl e) ih = Memᴰ.head (ap (input_in i) e)
    go (call n j) (inr k) ih = Memᴰ.tail (ih k)
    go (stop id n p j) (inl e) ih = absurd (cc)
    go (stop id n p j) (inr k) ih = ih k
    go (rule j) (inl e) ih = absurd (cc)
    go (rule j) (inr k) ih = ih k
    go (service n a b c) (inl e) ih = absurd (cc)
    go (service n a b c) (inr k) ih = ih k
    go (exception n a b) (inl e) ih = absurd (cc)
    go (exception n a b) (inr k) ih = ih k

-- what is left was there
pub without-mem : {A : Type 0} (p : A → Bool) (xs : List A) (x : A) → Memᴰ x (without_last p xs) → Memᴰ x xs
without-mem p [] x m = m
without-mem p (y ∷ xs) x m = go (anyb p xs) (p y) m (without-mem p xs x)
  where
    by : Memᴰ x (y ∷ without_last p xs) → (Memᴰ x (without_last p xs) → Memᴰ x xs) → (x ≡ y) ⊎ Memᴰ x (without_last p xs) → Memᴰ x (y ∷ xs)
    by m ih (inl e) = Memᴰ.head e
    by m ih (inr k) = Memᴰ.tail (ih k)

    go : (b c : Bool) → Memᴰ x (cond b (y ∷ without_last p xs) (cond c xs (y ∷ xs))) → (Memᴰ x (without_last p xs) → Memᴰ x xs)
        → Memᴰ x (y ∷ xs)
    go true c m ih = by m ih (Memᴰ.cases_cons m)
    go false true m ih = Memᴰ.tail m
    go false false m ih = m
