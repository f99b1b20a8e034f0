-- An offer by one walk over the kept list (request 04): judged, and those that it beats dropped, in one pass. `cov a b`: a equals or
-- beats b. The first kept one that covers the offer or that it covers decides. On an antichain that is judging first and then dropping
-- (specs/Claims).
use Rattle.std.specs.Prelude.{◌≡◌, Bool, true, false, not, cond, ◌||◌, ℕ, suc, ltb, length}
use mathlib.Core.List.{List, [], ◌∷◌, ◌++◌, Memᴰ}
use Rattle.laws.specs.Lists.{filterb}
use Rattle.profile.specs.Kept.{SearchState, going, refused, settle}

module _ {A : Type 0} where
  -- the place of the first that passes the test; the length if none does
  abbrev pub place : (A → Bool) → List A → ℕ
  place p [] = 0
  place p (x ∷ xs) = cond (p x) 0 (suc (place p xs))

module _ {A : Type 0} (cov : A → A → Bool) where
  -- one of the two covers the other
  abbrev pub near : A → A → Bool
  near a b = cov a b || cov b a

  -- none of the list covers another of it
  abbrev pub Antichain : List A → Type 0
  Antichain [] = Unit {0}
  Antichain (x ∷ xs) = ((y : A) → Memᴰ y xs → near x y ≡ false) × Antichain xs

  -- whether the walk passes the offer over: the first of the list that covers it or that it covers does cover it
  abbrev pub passes : A → List A → Bool
  passes o [] = false
  passes o (k ∷ ks) = cond (cov k o) true (cond (cov o k) false (passes o ks))

  -- how many of the list the walk reads: up to and including the one for which it passes the offer over, else all
  abbrev pub reads : A → List A → ℕ
  reads o ks = cond (passes o ks) (suc (place (λ k. near k o) ks)) (length ks)

module _ {A : Type 0} (cov : A → A → Bool) (due : A → ℕ) (cap floor : ℕ) where
  -- an offer due after the horizon is passed over, unread; so is one that the walk passes over; otherwise those it covers go and it is
  -- added last
  abbrev pub walk : SearchState A → A → SearchState A
  walk refused o = refused
  walk (going ks h l) o =
      cond (ltb h (due o)) (going ks h l)
      (cond (passes cov o ks) (going ks h l) (settle due cap floor (filterb (λ k. not (cov o k)) ks ++ o ∷ []) h l))

module _ {A : Type 0} (cov : A → A → Bool) (due : A → ℕ) where
  -- how many kept journeys the walk of an offer reads
  abbrev pub walk_reads : SearchState A → A → ℕ
  walk_reads refused o = 0
  walk_reads (going ks h l) o = cond (ltb h (due o)) 0 (reads cov o ks)
