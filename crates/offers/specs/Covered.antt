-- What demand 3 compares by: the seconds that are asked, and journeys that others equal or beat.
use Rattle.std.specs.Prelude.{◌≡◌, true, ℕ, ◌≤◌, ◌<◌, ℤ, pos, negsuc}
use Rattle.profile.specs.declared.Journey.{Journey}
use Rattle.profile.specs.Figures.{covers}
use Rattle.profile.specs.Journeys.{journey_figures}

-- the seconds that can be asked
abbrev pub I64 : ℤ → Type 0
I64 (pos n) = n < 9223372036854775808
I64 (negsuc n) = n < 9223372036854775808

-- each journey of A due by g is equalled or beaten by one of B
abbrev pub CoveredBy : ℕ → (Journey → Type 0) → (Journey → Type 0) → Type 0
CoveredBy g A B = (j : Journey) → A j → j.arrival ≤ g → (j' : Journey) × B j' × (covers (journey_figures j') (journey_figures j) ≡ true)
