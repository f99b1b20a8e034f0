-- A search as a list of events, in the order in which it comes to them: a join is tested, or a journey is offered. For request 12: "Give
-- the search a limit; the result carries the number of joins tested, which equals those the offer order lists up to its stop .. It stops
-- just before the first join past the limit. It says finished when no untested join is left, and stopped otherwise". J: what names a
-- join; A: what is offered.
use Rattle.std.specs.Prelude.{◌≡◌, ◌⊎◌, ◌↔◌, Bool, true, false, List, [], ◌∷◌, ◌++◌, ℕ, zero, suc, ◌-◌, ◌≤◌, min, length}

pub data Event (J A : Type 0) : Type 0 where
  tested : J → Event J A
  offered : A → Event J A

-- whether the list is empty
abbrev pub none_of : {J : Type 0} → List J → Bool
none_of [] = true
none_of (j ∷ js) = false

module _ {J A : Type 0} where
  -- the joins tested, and the journeys offered, in order
  abbrev pub joins_of : List (Event J A) → List J
  joins_of [] = []
  joins_of (tested j ∷ es) = j ∷ joins_of es
  joins_of (offered a ∷ es) = joins_of es

  abbrev pub offers_of : List (Event J A) → List A
  offers_of [] = []
  offers_of (tested j ∷ es) = offers_of es
  offers_of (offered a ∷ es) = a ∷ offers_of es

  -- how many joins are tested
  abbrev pub joins_in : List (Event J A) → ℕ
  joins_in es = length (joins_of es)

  -- the events before the first join past the limit n
  abbrev pub up_to : ℕ → List (Event J A) → List (Event J A)
  up_to n [] = []
  up_to n (offered a ∷ es) = offered a ∷ up_to n es
  up_to zero (tested j ∷ es) = []
  up_to (suc n) (tested j ∷ es) = tested j ∷ up_to n es

  -- that join and the events after it
  abbrev pub past : ℕ → List (Event J A) → List (Event J A)
  past n [] = []
  past n (offered a ∷ es) = past n es
  past zero (tested j ∷ es) = tested j ∷ es
  past (suc n) (tested j ∷ es) = past n es

  -- no untested join is left
  abbrev pub finished : ℕ → List (Event J A) → Bool
  finished n es = none_of (joins_of (past n es))

-- ---- what is claimed

module _ (J A : Type 0) where
  -- the events come first up to the stop, then past it
  abbrev pub Stops : Type 0
  Stops = (n : ℕ) (es : List (Event J A)) → es ≡ up_to n es ++ past n es

  -- past the stop is nothing, or there comes a join first, and n joins were tested before it
  abbrev pub StopsAtJoin : Type 0
  StopsAtJoin = (n : ℕ) (es : List (Event J A))
      → (past n es ≡ []) ⊎ ((j : J) × (rest : List (Event J A)) × (past n es ≡ tested j ∷ rest) × (joins_in (up_to n es) ≡ n))

  -- as many joins are tested as there are, and no more than n
  abbrev pub CountIs : Type 0
  CountIs = (n : ℕ) (es : List (Event J A)) → joins_in (up_to n es) ≡ min n (joins_in es)

  -- finished exactly if there are no more joins than n; then these were all the events
  abbrev pub FinishedIf : Type 0
  FinishedIf = (n : ℕ) (es : List (Event J A)) → (finished n es ≡ true) ↔ (joins_in es ≤ n)

  abbrev pub FinishedIsAll : Type 0
  FinishedIsAll = (n : ℕ) (es : List (Event J A)) → (finished n es ≡ true) ↔ (up_to n es ≡ es)

  -- a larger limit goes on where a smaller one stopped
  abbrev pub GoesOn : Type 0
  GoesOn = (n m : ℕ) (es : List (Event J A)) → n ≤ m → up_to m es ≡ up_to n es ++ up_to (m - n) (past n es)
