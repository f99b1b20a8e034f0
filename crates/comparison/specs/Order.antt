-- When a journey equals or beats another, as relations on journeys: no Bool test, and none of the program's figures. RULES 8.4.
use Rattle.std.specs.Prelude.{◌≡◌, ◌⊎◌, ℕ, ◌≤◌, ◌<◌}
use Rattle.profile.specs.declared.Journey.{Journey}

-- (a, b, c) is no larger than (x, y, z), compared in that order
abbrev pub NoLarger : ℕ → ℕ → ℕ → ℕ → ℕ → ℕ → Type 0
NoLarger a b c x y z = (a < x) ⊎ ((a ≡ x) × ((b < y) ⊎ ((b ≡ y) × (c ≤ z))))

-- p leaves no earlier than q and is no larger by arrival, rides and walk
pub record EqualsOrBeats (p q : Journey) : Type 0 where
  pub leaves : q.leave ≤ p.leave
  pub rest : NoLarger p.arrival p.rides p.walk q.arrival q.rides q.walk

-- p and q are equal: all four figures are
pub record Same (p q : Journey) : Type 0 where
  pub leave : p.leave ≡ q.leave
  pub arrival : p.arrival ≡ q.arrival
  pub rides : p.rides ≡ q.rides
  pub walk : p.walk ≡ q.walk

-- p beats q: it equals or beats it, and isn't equal
pub record Beats (p q : Journey) : Type 0 where
  pub over : EqualsOrBeats p q
  pub apart : Same p q → ⊥
