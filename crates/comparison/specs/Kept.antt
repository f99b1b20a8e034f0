-- The list: exactly the offers due by its horizon that no offer beats, of equals the first offered, told by the positions of the offers; in
-- order of arrival, rides and walk, least first, then latest leave. RULES 8.7.
use Rattle.std.specs.Prelude.{◌≡◌, ◌⊎◌, ◌↔◌, ℕ, ◌≤◌, ◌<◌, length, get_or}
use mathlib.Core.List.{List, [], ◌∷◌, Memᴰ}
use Rattle.profile.specs.declared.Journey.{Journey}
use Rattle.profile.specs.Journeys.{no_journey}
use Rattle.comparison.specs.Order.{Same, Beats}

-- the journey offered at a position
abbrev pub offered : List Journey → ℕ → Journey
offered os i = get_or os i no_journey

-- the offer at position i is due by h, no other offer beats it, and none before it equals it
pub record Stands (h : ℕ) (os : List Journey) (i : ℕ) : Type 0 where
  pub there : i < length os
  pub due : (offered os i).arrival ≤ h
  pub unbeaten : (q : Journey) → Memᴰ q os → Beats q (offered os i) → ⊥
  pub oldest : (k : ℕ) → k < i → Same (offered os k) (offered os i) → ⊥

-- p goes before q: least arrival, then rides, then walk, then latest leave
abbrev pub GoesBefore : Journey → Journey → Type 0
GoesBefore p q = (p.arrival < q.arrival) ⊎ ((p.arrival ≡ q.arrival) × ((p.rides < q.rides) ⊎ ((p.rides ≡ q.rides) × ((p.walk < q.walk) ⊎ ((p.walk ≡ q.walk) × (q.leave < p.leave))))))

-- each goes before all after it; so none stands there twice
abbrev pub InOrder : List Journey → Type 0
InOrder [] = Unit {0}
InOrder (j ∷ js) = ((k : Journey) → Memᴰ k js → GoesBefore j k) × InOrder js

-- the list is the offers at the positions that stand, all of these and no other, in order
pub record Holds (h : ℕ) (os ks : List Journey) : Type 0 where
  pub exactly : (j : Journey) → Memᴰ j ks ↔ ((i : ℕ) × Stands h os i × (offered os i ≡ j))
  pub in_order : InOrder ks
