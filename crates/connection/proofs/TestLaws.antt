-- The first test that holds, by `find`, and of lists one after another.
use mathlib.Core.Path.{◌≡◌, refl, sym, ap, ◌∙◌}
use mathlib.Core.Bool.{Bool, true, false, cond}
use mathlib.Core.List.{List, [], ◌∷◌, ◌++◌}
use Prim.Native.Nat.{ℕ}
use lib.Dec.{leb}
use Rattle.std.specs.Prelude.{None, Option, Some}
use Rattle.std.specs.List.{find}
use Rattle.std.specs.Option.{option_map, option_or}
use Rattle.connection.specs.declared.Leg.{Leg}
use Rattle.connection.specs.declared.Cause.{Cause}
use Rattle.connection.specs.declared.Way.{Way}
use Rattle.connection.specs.Tests.{first_of, asking}
use Rattle.connection.specs.Find.{leg_at}
use Rattle.connection.specs.Legs.{leg_tests, legs_tests}

abbrev pub holds : (Bool × Cause) → Bool
holds t = t.0

abbrev pub cause : (Bool × Cause) → Cause
cause t = t.1

pub first-found : (ts : List (Bool × Cause)) → option_map cause (find holds ts) ≡ first_of ts
first-found [] = refl
first-found (t ∷ ts) = go t.0 (first-found ts)
  where
    go : (b : Bool) → option_map cause (find holds ts) ≡ first_of ts
        → option_map cause (cond b (Some t) (find holds ts)) ≡ cond b (Some t.1) (first_of ts)
    go true e = refl
    go false e = e

pub first-append : (xs ys : List (Bool × Cause)) → first_of (xs ++ ys) ≡ option_or (first_of xs) (first_of ys)
first-append [] ys = refl
first-append (x ∷ xs) ys = go x.0 (first-append xs ys)
  where
    go : (b : Bool) → first_of (xs ++ ys) ≡ option_or (first_of xs) (first_of ys)
        → cond b (Some x.1) (first_of (xs ++ ys)) ≡ option_or (cond b (Some x.1) (first_of xs)) (first_of ys)
    go true e = refl
    go false e = e

-- a chain of `or` may be read from either end
pub or-assoc : (a b c : Option Cause) → option_or (option_or a b) c ≡ option_or a (option_or b c)
or-assoc None b c = refl
or-assoc (Some x) b c = refl

-- by what is told of each of two lists, and of each of three
pub first-two : (xs ys : List (Bool × Cause)) {a b r : Option Cause} → a ≡ first_of xs → b ≡ first_of ys → r ≡ option_or a b
    → r ≡ first_of (xs ++ ys)
first-two xs ys x y e = e ∙ (λ i. option_or (x i) (y i)) ∙ sym (first-append xs ys)

pub first-three : (xs ys zs : List (Bool × Cause)) {a b c r t : Option Cause} → a ≡ first_of xs → b ≡ first_of ys → r ≡ option_or a b
    → c ≡ first_of zs → t ≡ option_or r c → t ≡ first_of (xs ++ (ys ++ zs))
first-three xs ys zs {a} {b} {c} {r} {t} x y e z f =
    first-two xs (ys ++ zs) x ((λ i. option_or (y i) (z i)) ∙ sym (first-append ys zs))
    (f ∙ ap (λ (o : Option Cause). option_or o c) e ∙ or-assoc a b c)

pub legs-chain : (n : ℕ) (legs : List Leg) (w : Way) {r₁ r₂ r₃ s t : Option Cause}
    → r₁ ≡ first_of (asking true (leg_tests 0 (leg_at legs 0) w.first))
    → r₂ ≡ first_of (asking (leb 2 n) (leg_tests 1 (leg_at legs 1) w.second))
    → s ≡ option_or r₁ r₂
    → r₃ ≡ first_of (asking (leb 3 n) (leg_tests 2 (leg_at legs 2) w.third))
    → t ≡ option_or s r₃ → t ≡ first_of (legs_tests n legs w)
legs-chain n legs w e₁ e₂ es e₃ et =
    first-three (leg_tests 0 (leg_at legs 0) w.first) (asking (leb 2 n) (leg_tests 1 (leg_at legs 1) w.second))
    (asking (leb 3 n) (leg_tests 2 (leg_at legs 2) w.third)) e₁ e₂ es e₃ et
