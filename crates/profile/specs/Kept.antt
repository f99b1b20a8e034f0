-- The kept list, the horizon and the mark, offer by offer. `cov a b`: a equals or beats b. `due a`: when a is due.
use Rattle.std.specs.Prelude.{Bool, true, not, cond, List, [], ◌∷◌, ◌++◌, map, ℕ, ◌-◌, max, leb, ltb, length}
use Rattle.laws.specs.Lists.{filterb, anyb, foldl}
use Rattle.profile.specs.Figures.{Figures, covᶠ, dueᶠ}

-- the journeys kept, the horizon and the mark `limits`; or the search is refused
pub data SearchState (A : Type 0) : Type 0 where
  going : List A → ℕ → ℕ → SearchState A
  refused : SearchState A

module _ {A : Type 0} (due : A → ℕ) where
  -- the latest that one of the list is due
  abbrev pub latest : List A → ℕ
  latest [] = 0
  latest (x ∷ xs) = max (due x) (latest xs)

module _ {A : Type 0} (due : A → ℕ) (cap floor : ℕ) where
  -- ks is to be kept. If that is more than `cap`, the horizon becomes the latest arrival of them less 1, limits becomes 1, and all due
  -- later go; the search is refused if that horizon would be below `floor`
  abbrev pub settle : List A → ℕ → ℕ → SearchState A
  settle ks h l =
      cond (leb (length ks) cap) (going ks h l)
      (cond (ltb (latest due ks - 1) floor) refused (going (filterb (λ k. leb (due k) (latest due ks - 1)) ks) (latest due ks - 1) 1))

module _ {A : Type 0} (cov : A → A → Bool) (due : A → ℕ) (cap floor : ℕ) where
  -- an offer (`candidate`) due after the horizon is passed over; so is one equalled or beaten by a kept one; otherwise those it equals or
  -- beats go and it is added last. It equals none then, so those are the ones it beats
  abbrev pub offer : SearchState A → A → SearchState A
  offer refused o = refused
  offer (going ks h l) o =
      cond (ltb h (due o)) (going ks h l)
      (cond (anyb (λ k. cov k o) ks) (going ks h l) (settle due cap floor (filterb (λ k. not (cov o k)) ks ++ o ∷ []) h l))

  -- the offers `os` in order, from no journey, the horizon h and the mark l
  abbrev pub run : ℕ → ℕ → List A → SearchState A
  run h l os = foldl offer (going [] h l) os

module _ {A : Type 0} where
  -- whether an offer due at a would be passed over at once: it is due after the horizon, or the search is refused
  abbrev pub too_late : SearchState A → ℕ → Bool
  too_late (going ks h l) a = ltb h a
  too_late refused a = true

module _ {A : Type 0} (fig : A → Figures) (cap floor : ℕ) where
  -- the search over any list of offers
  abbrev pub searched : ℕ → ℕ → List A → SearchState A
  searched h l os = run (covᶠ fig) (dueᶠ fig) cap floor h l os

module _ {A B : Type 0} (f : A → B) where
  -- the state with f of each journey kept
  abbrev pub map_st : SearchState A → SearchState B
  map_st (going ks h l) = going (map f ks) h l
  map_st refused = refused
