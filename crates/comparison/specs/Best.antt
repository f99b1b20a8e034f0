-- Best, as a relation between the kept list, the horizon, the second and the answer: none before 0 or after the horizon; else, of the
-- journeys that leave at the second or later, the least by arrival, then rides, then walk, then latest leave; of full ties the first.
-- RULES 9.1.
use Rattle.std.specs.Prelude.{◌≡◌, ◌⊎◌, ℕ, ◌≤◌, ◌<◌, ℤ, pos, negsuc, None, Option, Some}
use mathlib.Core.List.{List, ◌∷◌, ◌++◌, Memᴰ}
use Rattle.profile.specs.declared.Journey.{Journey}
use Rattle.comparison.specs.Order.{Same}

-- p is as good as q or better: less by arrival, then rides, then walk, then it leaves later. Of a full tie each is as good as the other
abbrev pub AsGood : Journey → Journey → Type 0
AsGood p q =
    (p.arrival < q.arrival)
    ⊎ ((p.arrival ≡ q.arrival)
    × ((p.rides < q.rides) ⊎ ((p.rides ≡ q.rides) × ((p.walk < q.walk) ⊎ ((p.walk ≡ q.walk) × (q.leave ≤ p.leave))))))

-- of the journeys of ks that leave at t or later, j is as good as each, and the first of its equals
pub record IsBest (ks : List Journey) (t : ℕ) (j : Journey) : Type 0 where
  pub before : List Journey
  pub behind : List Journey
  pub kept : ks ≡ before ++ j ∷ behind
  pub in_time : t ≤ j.leave
  pub best : (k : Journey) → Memᴰ k ks → t ≤ k.leave → AsGood j k
  pub first : (k : Journey) → Memᴰ k before → t ≤ k.leave → Same k j → ⊥

-- the answer at a second: a journey only from 0 to the horizon; none there only if no journey leaves in time
abbrev pub BestAt : List Journey → ℕ → ℤ → Option Journey → Type 0
BestAt ks h (pos t) None = (h < t) ⊎ ((k : Journey) → Memᴰ k ks → t ≤ k.leave → ⊥)
BestAt ks h (pos t) (Some j) = (t ≤ h) × IsBest ks t j
BestAt ks h (negsuc t) None = Unit {0}
BestAt ks h (negsuc t) (Some j) = ⊥
