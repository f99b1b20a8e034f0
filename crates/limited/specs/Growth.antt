-- What an answer for second 0 owes to more offers: of few kinds few arrive together, so that no cut of the horizon takes the earliest.
use Rattle.std.specs.Prelude.{◌≡◌, ℕ, zero, suc, ◌≤◌, ◌<◌, eqb, length, Some}
use mathlib.Core.List.{List, [], ◌∷◌, ◌++◌, Memᴰ}
use Rattle.laws.specs.Lists.{filterb}
use Rattle.profile.specs.declared.figures.Figures.{Figures}
use Rattle.profile.specs.Figures.{covᶠ, dueᶠ}
use Rattle.profile.specs.Front.{front}
use Rattle.profile.specs.Kept.{searched}
use Rattle.profile.specs.Instances.{figures_of, ends}
use Rattle.profile.specs.Best.{best}
use Rattle.profile.specs.Claims.{Keeps}
use Rattle.profile.specs.Sizes.{kept_room}

module _ {A : Type 0} (fig : A → Figures) where
  -- the offers are of n kinds: each has a number below n, and those of one number have as many rides and the same walk
  pub record Kinds (kind : A → ℕ) (n : ℕ) (os : List A) : Type 0 where
    pub small : (o : A) → Memᴰ o os → kind o < n
    pub rides : (a b : A) → Memᴰ a os → Memᴰ b os → kind a ≡ kind b → (fig a).rides ≡ (fig b).rides
    pub walk : (a b : A) → Memᴰ a os → Memᴰ b os → kind a ≡ kind b → (fig a).walk ≡ (fig b).walk

  -- ---- what is claimed

  -- of the unbeaten offers no more share an arrival than there are kinds
  abbrev pub FewTogether : Type 0
  FewTogether = (kind : A → ℕ) (n : ℕ) (os : List A) → Kinds kind n os → (h a : ℕ)
      → length (filterb (λ o. eqb (fig o).arrival a) (front (covᶠ fig) (dueᶠ fig) h os)) ≤ n

  -- where there are at most 64 kinds, more offers never turn an answer for second 0 into none or into a later arrival
  abbrev pub NeverLater : Type 0
  NeverLater = (kind : A → ℕ) (n h₀ l₀ : ℕ) (xs ys ks ks' : List A) (h h' l l' : ℕ) → n ≤ kept_room → Kinds kind n (xs ++ ys)
      → Keeps fig h₀ l₀ xs ks h l → Keeps fig h₀ l₀ (xs ++ ys) ks' h' l'
      → (j : A) → best fig ks h 0 ≡ Some j → (j' : A) × (best fig ks' h' 0 ≡ Some j') × ((fig j').arrival ≤ (fig j).arrival)

  -- and a cut never empties the list: of each offer due by the horizon at the start, one is kept that arrives no later
  abbrev pub NeverEmptied : Type 0
  NeverEmptied = (kind : A → ℕ) (n h₀ l₀ : ℕ) (os ks : List A) (h l : ℕ) → n ≤ kept_room → Kinds kind n os → Keeps fig h₀ l₀ os ks h l
      → (o : A) → Memᴰ o os → (fig o).arrival ≤ h₀ → (k : A) × Memᴰ k ks × ((fig k).arrival ≤ (fig o).arrival)

-- n journeys that arrive together; each leaves a second later and walks a minute more than the one before
abbrev pub together : ℕ → ℕ → List Figures
together a zero = []
together a (suc n) = figures_of a 4000 1 a ∷ together (suc a) n

-- with 65 kinds it is false: 64 of these are kept, and the 65th takes them all
pub record TogetherGo : Type 0 where
  pub sixty_four : ends (searched (λ f. f) 64 3600 21600 0 (together 0 64)) ≡ 64 ∷ 21600 ∷ 0 ∷ []
  pub sixty_five : ends (searched (λ f. f) 64 3600 21600 0 (together 0 65)) ≡ 0 ∷ 3999 ∷ 1 ∷ []
