-- The n-th of a list, equal texts, and what the steps of a list give, one after another.
use mathlib.Core.Path.{◌≡◌, refl, sym, ap, ap₂, ◌∙◌}
use mathlib.Core.Bool.{true, false≢true}
use mathlib.Core.List.{List, [], ◌∷◌, ◌++◌}
use Prim.Native.Nat.{ℕ, zero, suc, ◌<◌}
use native.Mathlib.Omega.{arith}
use lib.Dec.{eqb}
use lib.ListN.{length}
use borrow.Author.Tests.{eqb-true, eq-eqb}
use Rattle.laws.proofs.Bools.{and-true, and-true-left, and-true-right}
use Rattle.stops.specs.Texts.{same_bytes_of}
use Rattle.calls.specs.declared.CallInput.{CallInput}
use Rattle.rules.specs.declared.Rule.{Rule}
use Rattle.load.specs.FillStep.{FillStep, stop, call, rule, service, exception}
use Rattle.comparison.specs.Taken.{StopGiven, ServiceGiven, stops_in, calls_in, rules_in, services_in}
use Rattle.comparison.specs.Admitted.{Nth}

module _ {A : Type 0} where
  pub nth-below : (l : List A) (n : ℕ) (x : A) → Nth l n x → n < length l
  nth-below [] n x w = absurd w
  nth-below (y ∷ l) zero x w = omega arith
  nth-below (y ∷ l) (suc n) x w = let h = nth-below l n x w in omega arith

  pub nth-one : (l : List A) (n : ℕ) (x y : A) → Nth l n x → Nth l n y → x ≡ y
  nth-one [] n x y v w = absurd v
  nth-one (z ∷ l) zero x y v w = v ∙ sym w
  nth-one (z ∷ l) (suc n) x y v w = nth-one l n x y v w

  pub nth-more : (l m : List A) (n : ℕ) (x : A) → Nth l n x → Nth (l ++ m) n x
  nth-more [] m n x w = absurd w
  nth-more (y ∷ l) m zero x w = w
  nth-more (y ∷ l) m (suc n) x w = nth-more l m n x w

  pub nth-new : (l : List A) (x : A) → Nth (l ++ x ∷ []) (length l) x
  nth-new [] x = refl
  nth-new (y ∷ l) x = nth-new l x

-- ---- texts

pub bytes_same : (a b : List ℕ) → same_bytes_of a b ≡ true → a ≡ b
bytes_same [] [] e = refl
bytes_same [] (y ∷ b) e = absurd (false≢true e)
bytes_same (x ∷ a) [] e = absurd (false≢true e)
bytes_same (x ∷ a) (y ∷ b) e = ap₂ {B = List ℕ} {C = List ℕ} (λ (z : ℕ) r. z ∷ r) (eqb-true x y (and-true-left (eqb x y) _ e))
    (bytes_same a b (and-true-right (eqb x y) _ e))

pub same_bytes : (a : List ℕ) → same_bytes_of a a ≡ true
same_bytes [] = refl
same_bytes (x ∷ a) = and-true _ _ (eq-eqb x x refl) (same_bytes a)

-- ---- what is given, part by part

pub calls-append : (fs gs : List FillStep) → calls_in (fs ++ gs) ≡ calls_in fs ++ calls_in gs
calls-append [] gs = refl
calls-append (stop id name parent i ∷ fs) gs = calls-append fs gs
calls-append (call name i ∷ fs) gs = ap {B = List CallInput} (λ r. i ∷ r) (calls-append fs gs)
calls-append (rule i ∷ fs) gs = calls-append fs gs
calls-append (service name weekdays start end ∷ fs) gs = calls-append fs gs
calls-append (exception name date kind ∷ fs) gs = calls-append fs gs

pub rules-append : (fs gs : List FillStep) → rules_in (fs ++ gs) ≡ rules_in fs ++ rules_in gs
rules-append [] gs = refl
rules-append (stop id name parent i ∷ fs) gs = rules-append fs gs
rules-append (call name i ∷ fs) gs = rules-append fs gs
rules-append (rule i ∷ fs) gs = ap {B = List Rule} (λ r. i ∷ r) (rules-append fs gs)
rules-append (service name weekdays start end ∷ fs) gs = rules-append fs gs
rules-append (exception name date kind ∷ fs) gs = rules-append fs gs

pub stops-append : (fs gs : List FillStep) → stops_in (fs ++ gs) ≡ stops_in fs ++ stops_in gs
stops-append [] gs = refl
stops-append (stop id name parent i ∷ fs) gs = ap {B = List StopGiven}
    (λ r. record { id = id; name = name; parent = parent; input = i } ∷ r) (stops-append fs gs)
stops-append (call name i ∷ fs) gs = stops-append fs gs
stops-append (rule i ∷ fs) gs = stops-append fs gs
stops-append (service name weekdays start end ∷ fs) gs = stops-append fs gs
stops-append (exception name date kind ∷ fs) gs = stops-append fs gs

pub services-append : (fs gs : List FillStep) → services_in (fs ++ gs) ≡ services_in fs ++ services_in gs
services-append [] gs = refl
services-append (stop id name parent i ∷ fs) gs = services-append fs gs
services-append (call name i ∷ fs) gs = services-append fs gs
services-append (rule i ∷ fs) gs = services-append fs gs
services-append (service name weekdays start end ∷ fs) gs =
    ap {B = List ServiceGiven} (λ r. record { name = name; weekdays = weekdays; start = start; end = end } ∷ r) (services-append fs gs)
services-append (exception name date kind ∷ fs) gs = services-append fs gs
