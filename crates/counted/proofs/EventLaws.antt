-- The events up to a limit: where they stop, how many joins they have, and how lists of events are put together.
use mathlib.Core.Path.{◌≡◌, refl, sym, ap, ◌∙◌}
use mathlib.Core.Logic.{◌⊎◌, inl, inr}
use mathlib.Core.Bool.{true, false≢true}
use mathlib.Core.List.{List, [], ◌∷◌, ◌++◌, map}
use Prim.Native.Nat.{ℕ, zero, suc, ◌-◌, ◌≤◌, min}
use native.Mathlib.Omega.{arith}
use Rattle.laws.specs.Lists.{concat_map}
use Rattle.counted.specs.Events.{Event, tested, offered, joins_of, offers_of, joins_in, up_to, past, finished, Stops, StopsAtJoin, CountIs}
use Rattle.counted.specs.Events.{FinishedIf, FinishedIsAll, GoesOn}

pub offers-offered : (J : Type 0) {A : Type 0} (os : List A) → offers_of (map {B = Event J A} offered os) ≡ os
offers-offered J [] = refl
offers-offered J {A} (a ∷ os) = ap {B = List A} (λ r. a ∷ r) (offers-offered J os)

module _ {J A : Type 0} where
  -- ---- lists of events put together

  pub offers-append : (xs ys : List (Event J A)) → offers_of (xs ++ ys) ≡ offers_of xs ++ offers_of ys
  offers-append [] ys = refl
  offers-append (tested j ∷ xs) ys = offers-append xs ys
  offers-append (offered a ∷ xs) ys = ap {B = List A} (λ r. a ∷ r) (offers-append xs ys)

  pub joins-append : (xs ys : List (Event J A)) → joins_of (xs ++ ys) ≡ joins_of xs ++ joins_of ys
  joins-append [] ys = refl
  joins-append (tested j ∷ xs) ys = ap {B = List J} (λ r. j ∷ r) (joins-append xs ys)
  joins-append (offered a ∷ xs) ys = joins-append xs ys

  pub joins-offered : (os : List A) → joins_of (map {B = Event J A} offered os) ≡ []
  joins-offered [] = refl
  joins-offered (a ∷ os) = joins-offered os

  pub offers-flat : {B : Type 0} (g : B → List (Event J A)) (xs : List B)
      → offers_of (concat_map g xs) ≡ concat_map (λ x. offers_of (g x)) xs
  offers-flat g [] = refl
  offers-flat g (x ∷ xs) = offers-append (g x) (concat_map g xs) ∙ ap (λ (r : List A). offers_of (g x) ++ r) (offers-flat g xs)

  pub joins-flat : {B : Type 0} (g : B → List (Event J A)) (xs : List B) → joins_of (concat_map g xs) ≡ concat_map (λ x. joins_of (g x)) xs
  joins-flat g [] = refl
  joins-flat g (x ∷ xs) = joins-append (g x) (concat_map g xs) ∙ ap (λ (r : List J). joins_of (g x) ++ r) (joins-flat g xs)

  -- ---- up to a limit

  pub stops : Stops J A
  stops n [] = refl
  stops n (offered a ∷ es) = ap {B = List (Event J A)} (λ r. offered a ∷ r) (stops n es)
  stops zero (tested j ∷ es) = refl
  stops (suc n) (tested j ∷ es) = ap {B = List (Event J A)} (λ r. tested j ∷ r) (stops n es)

  pub stops-at-join : StopsAtJoin J A
  stops-at-join n [] = inl refl
  stops-at-join n (offered a ∷ es) = stops-at-join n es
  stops-at-join zero (tested j ∷ es) = inr (j, es, refl, refl)
  stops-at-join (suc n) (tested i ∷ es) = go (stops-at-join n es)
    where
      go : (past n es ≡ []) ⊎ ((j : J) × (rest : List (Event J A)) × (past n es ≡ tested j ∷ rest) × (joins_in (up_to n es) ≡ n))
          → (past n es ≡ []) ⊎ ((j : J) × (rest : List (Event J A)) × (past n es ≡ tested j ∷ rest) × (suc (joins_in (up_to n es)) ≡ suc n))
      go (inl e) = inl e
      go (inr (j, rest, e, q)) = inr (j, rest, e, ap suc q)

  pub count-is : CountIs J A
  count-is n [] = omega arith
  count-is n (offered a ∷ es) = count-is n es
  count-is zero (tested j ∷ es) = omega arith
  count-is (suc n) (tested j ∷ es) = let e = count-is n es in omega arith

  finished-le : (n : ℕ) (es : List (Event J A)) → finished n es ≡ true → joins_in es ≤ n
  finished-le n [] e = omega arith
  finished-le n (offered a ∷ es) e = finished-le n es e
  finished-le zero (tested j ∷ es) e = absurd (false≢true e)
  finished-le (suc n) (tested j ∷ es) e = let h = finished-le n es e in omega arith

  le-finished : (n : ℕ) (es : List (Event J A)) → joins_in es ≤ n → finished n es ≡ true
  le-finished n [] h = refl
  le-finished n (offered a ∷ es) h = le-finished n es h
  le-finished zero (tested j ∷ es) h = absurd (omega arith)
  le-finished (suc n) (tested j ∷ es) h = le-finished n es (omega arith)

  pub finished-if : FinishedIf J A
  finished-if n es = (finished-le n es, le-finished n es)

  whole : (n : ℕ) (es : List (Event J A)) → joins_in es ≤ n → up_to n es ≡ es
  whole n [] h = refl
  whole n (offered a ∷ es) h = ap {B = List (Event J A)} (λ r. offered a ∷ r) (whole n es h)
  whole zero (tested j ∷ es) h = absurd (omega arith)
  whole (suc n) (tested j ∷ es) h = ap {B = List (Event J A)} (λ r. tested j ∷ r) (whole n es (omega arith))

  pub finished-is-all : FinishedIsAll J A
  finished-is-all n es = (
    λ f. whole n es (finished-le n es f),
    λ e. let q : joins_in es ≡ min n (joins_in es) = ap joins_in (sym e) ∙ count-is n es in le-finished n es (omega arith),
  )

  pub goes_on : GoesOn J A
  goes_on n m [] h = refl
  goes_on n m (offered a ∷ es) h = ap {B = List (Event J A)} (λ r. offered a ∷ r) (goes_on n m es h)
  goes_on zero m (tested j ∷ es) h = let e : m ≡ m - 0 = omega arith in ap (λ (k : ℕ). up_to k (tested j ∷ es)) e
  goes_on (suc n) zero (tested j ∷ es) h = absurd (omega arith)
  goes_on (suc n) (suc m) (tested j ∷ es) h =
      let e : m - n ≡ suc m - suc n = omega arith in
      ap {B = List (Event J A)} (λ r. tested j ∷ r) (goes_on n m es (omega arith) ∙ ap (λ (k : ℕ). up_to n es ++ up_to k (past n es)) e)
