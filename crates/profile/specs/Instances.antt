-- The scope's starred instances on beating and on a 65th journey, as one table.
use Rattle.std.specs.Prelude.{◌≡◌, true, false, List, [], ◌∷◌, ℕ, zero, suc, ◌+◌, length}
use Rattle.profile.specs.Figures.{Figures, covers}
use Rattle.profile.specs.Kept.{SearchState, going, refused, searched}
use Rattle.profile.specs.Front.{beats}

abbrev pub figures_of : ℕ → ℕ → ℕ → ℕ → Figures
figures_of a b c d = record { leave = a; arrival = b; rides = c; walk = d }

-- n journeys that each leave and arrive a second after the one before; the first leaves at a and arrives at a + 3000
abbrev pub a_second_apart : ℕ → ℕ → List Figures
a_second_apart a zero = []
a_second_apart a (suc n) = figures_of a (a + 3000) 1 5 ∷ a_second_apart (suc a) n

-- how many are kept, the horizon and the mark; nothing where the search is refused
abbrev pub ends : SearchState Figures → List ℕ
ends (going ks h l) = length ks ∷ h ∷ l ∷ []
ends refused = []

pub record Instances : Type 0 where
  -- (300, 1319, 2 rides) beats (300, 1320, 1 ride), whatever they walk
  pub beaten : (w w' : ℕ) → beats covers (figures_of 300 1319 2 w) (figures_of 300 1320 1 w') ≡ true
  -- (301, 1320, 2) stands beside (300, 1320, 1): neither equals or beats the other
  pub beside : (w w' : ℕ) → covers (figures_of 301 1320 2 w) (figures_of 300 1320 1 w') ≡ false
  pub beside' : (w w' : ℕ) → covers (figures_of 300 1320 1 w) (figures_of 301 1320 2 w') ≡ false
  -- none of the two lists of 65 below beats another: a list with room for 65 holds them all
  pub unbeaten : ends (searched (λ f. f) 65 3600 21600 0 (a_second_apart 537 65)) ≡ 65 ∷ 21600 ∷ 0 ∷ []
  pub unbeaten' : ends (searched (λ f. f) 65 3600 21600 0 (a_second_apart 536 65)) ≡ 65 ∷ 21600 ∷ 0 ∷ []
  -- 64 unbeaten: horizon and mark are as they were
  pub sixty_four : ends (searched (λ f. f) 64 3600 21600 0 (a_second_apart 537 64)) ≡ 64 ∷ 21600 ∷ 0 ∷ []
  -- 65 unbeaten, the latest 3601: the horizon is 3600
  pub latest_3601 : ends (searched (λ f. f) 64 3600 21600 0 (a_second_apart 537 65)) ≡ 64 ∷ 3600 ∷ 1 ∷ []
  -- the latest 3600: refused
  pub latest_3600 : ends (searched (λ f. f) 64 3600 21600 0 (a_second_apart 536 65)) ≡ []
