-- The horizon and the mark by the offers alone, with no kept list.
use Rattle.std.specs.Prelude.{◌≡◌, ◌⊎◌, Bool, true, false, cond, ◌&&◌, List, [], ◌∷◌, ◌++◌, ℕ, ◌-◌, ◌<◌, leb, ltb, length}
use Rattle.profile.specs.Front.{front}
use Rattle.profile.specs.Kept.{SearchState, going, refused, latest}

-- the horizon and the mark that a search ends with, or the search is refused
pub data Ends : Type 0 where
  up_to : ℕ → ℕ → Ends
  never : Ends

module _ {A : Type 0} (cov : A → A → Bool) (due : A → ℕ) (cap floor : ℕ) where
  -- after each offer: if more than `cap` of the offers so far count, the horizon becomes the latest arrival of these less 1, and the mark
  -- 1; below `floor` the search is refused
  abbrev pub fall : ℕ → ℕ → List A → List A → Ends
  fall h l pre [] = up_to h l
  fall h l pre (o ∷ os) =
      cond (leb (length (front cov due h (pre ++ o ∷ []))) cap) (fall h l (pre ++ o ∷ []) os)
      (cond (ltb (latest due (front cov due h (pre ++ o ∷ [])) - 1) floor) never
      (fall (latest due (front cov due h (pre ++ o ∷ [])) - 1) 1 (pre ++ o ∷ []) os))

module _ {A : Type 0} (cov : A → A → Bool) (due : A → ℕ) where
  -- the state that keeps those of `os` that count at the horizon
  abbrev pub keeping : List A → Ends → SearchState A
  keeping os (up_to h l) = going (front cov due h os) h l
  keeping os never = refused

module _ {A : Type 0} (cov : A → A → Bool) (due : A → ℕ) (cap : ℕ) where
  -- of each beginning of `os`, at most `cap` count, at the horizon h; `pre` was offered before
  abbrev pub fits : ℕ → List A → List A → Bool
  fits h pre [] = leb (length (front cov due h pre)) cap
  fits h pre (o ∷ os) = leb (length (front cov due h pre)) cap && fits h (pre ++ o ∷ []) os

  -- from the horizon h₀ and the mark l₀: of every beginning of `os` at most `cap` count, and horizon and mark are as they were; or of
  -- some more do, and the horizon is earlier and the mark 1, or the search is refused
  abbrev pub Marked : ℕ → ℕ → List A → SearchState A → Type 0
  Marked h₀ l₀ os (going ks h l) = ((fits h₀ [] os ≡ true) × (h ≡ h₀) × (l ≡ l₀)) ⊎ ((fits h₀ [] os ≡ false) × (h < h₀) × (l ≡ 1))
  Marked h₀ l₀ os refused = fits h₀ [] os ≡ false
