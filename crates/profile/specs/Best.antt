-- Best over a kept list, by reading all of it and by the first that leaves in time; what it is for a list to stand for all the offers up
-- to a horizon, and to stand in order.
use Rattle.std.specs.Prelude.{◌≡◌, Bool, true, not, cond, ℕ, suc, ◌≤◌, leb, ltb, ℤ, pos, negsuc, None, Option, Some}
use mathlib.Core.List.{List, [], ◌∷◌, Memᴰ}
use Rattle.laws.specs.Lists.{filterb, firstb}
use Rattle.laws.specs.Sort.{sort}
use Rattle.profile.specs.Figures.{Figures, covers, prefer}

module _ {A : Type 0} (fig : A → Figures) where
  -- the more preferred of x and what was picked of those after it; x if they tie
  abbrev pub choose : A → Option A → Option A
  choose x None = Some x
  choose x (Some y) = cond (prefer (fig x) (fig y)) (Some x) (Some y)

  -- least arrival, then rides, then walk, then latest leave; the first of full ties
  abbrev pub pick : List A → Option A
  pick [] = None
  pick (x ∷ xs) = choose x (pick xs)

  -- best at the second t: none after the horizon h; else of those leaving at t or later
  abbrev pub best : List A → ℕ → ℕ → Option A
  best ks h t = cond (ltb h t) None (pick (filterb (λ k. leb t (fig k).leave) ks))

  -- best at any second: none before 0
  abbrev pub bestℤ : List A → ℕ → ℤ → Option A
  bestℤ ks h (pos t) = best ks h t
  bestℤ ks h (negsuc t) = None

  -- the first that leaves at t or later: none after the horizon h
  abbrev pub first : List A → ℕ → ℕ → Option A
  first ks h t = cond (ltb h t) None (firstb (λ k. leb t (fig k).leave) ks)

  -- the same at any second: none before 0
  abbrev pub firstℤ : List A → ℕ → ℤ → Option A
  firstℤ ks h (pos t) = first ks h t
  firstℤ ks h (negsuc t) = None

  -- a turn of the loop that best is: what it has found, and one journey more; what was found stays where they tie
  abbrev pub keep : Option A → A → Option A
  keep None x = Some x
  keep (Some b) x = cond (prefer (fig b) (fig x)) (Some b) (Some x)

  -- an answer's figures, read as none if it is due after g
  abbrev pub read_by : ℕ → Option A → Option Figures
  read_by g None = None
  read_by g (Some j) = cond (leb (fig j).arrival g) (Some (fig j)) None

  -- each of `os` due by g is equalled or beaten by one of `os'`
  abbrev pub Covers : ℕ → List A → List A → Type 0
  Covers g os os' = (o : A) → Memᴰ o os → (fig o).arrival ≤ g → (o' : A) × Memᴰ o' os' × (covers (fig o') (fig o) ≡ true)

  -- none of the list leaves after it arrives
  abbrev pub Ahead : List A → Type 0
  Ahead os = (o : A) → Memᴰ o os → (fig o).leave ≤ (fig o).arrival

  -- ks stands for the offers `os` up to the horizon h: each of ks is one of them, and each of them due by h is covered by one of ks
  pub record Complete (os ks : List A) (h : ℕ) : Type 0 where
    pub kept : (k : A) → Memᴰ k ks → Memᴰ k os
    pub covered : Covers h os ks
    pub ahead : Ahead os

  -- a list in the order of best: none is preferred to one before it
  abbrev pub Ordered : List A → Type 0
  Ordered [] = Unit {0}
  Ordered (x ∷ xs) = ((y : A) → Memᴰ y xs → prefer (fig x) (fig y) ≡ true) × Ordered xs

  -- best takes a rather than b, and they do not tie
  abbrev pub sooner : A → A → Bool
  sooner a b = not (prefer (fig b) (fig a))

  -- the list by arrival, rides and walk, least first, then latest leave; full ties as they stood
  abbrev pub ordered : List A → List A
  ordered ks = sort sooner ks

  -- the figures of a numbered element
  abbrev pub figures_at : (ℕ × A) → Figures
  figures_at p = fig p.1

-- each element with its place, from n on
abbrev pub numbered : {A : Type 0} → ℕ → List A → List (ℕ × A)
numbered n [] = []
numbered n (x ∷ xs) = (n, x) ∷ numbered (suc n) xs
