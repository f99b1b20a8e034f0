-- The list of a searched load that was not stopped, and what a window leaves of it: what demand 3 becomes with windows as horizons (request
-- 08).
use Rattle.std.specs.Prelude.{◌≡◌, ◌↔◌, true, false, List, ℕ, ◌≤◌, min, ℤ}
use Rattle.profile.specs.Best.{bestℤ, read_by, Complete}
use Rattle.profile.specs.Journeys.{journey_figures}
use Rattle.offers.specs.Covered.{I64, CoveredBy}
use Rattle.offers.specs.Machine.{within}
use Rattle.load.specs.Load.{stopped}
use Rattle.load.specs.Steps.{Opening}
use Rattle.load.specs.Sound.{Opens}
use Rattle.best.specs.Best.{kept_of}
use Rattle.steps.specs.Steps.{Step}
use Rattle.steps.specs.Lists.{end_of, Admitted, offers_of}

-- what it lists stands for its offers, up to its horizon
abbrev pub KeptStands : Type 0
KeptStands = (s : Opening) (xs : List Step) → Opens s → (end_of s xs).searched ≡ true → stopped (end_of s xs) ≡ false
    → Complete journey_figures (offers_of s xs) (kept_of (end_of s xs)) (end_of s xs).horizon

-- best of two such lists, each cut at a window no later than its horizon, agrees likewise up to the earlier window
abbrev pub AgreesWithin : Type 0
AgreesWithin = (s s' : Opening) (xs xs' : List Step) (w w' : ℕ) → Opens s → Opens s'
    → (end_of s xs).searched ≡ true → (end_of s' xs').searched ≡ true
    → stopped (end_of s xs) ≡ false → stopped (end_of s' xs') ≡ false
    → w ≤ (end_of s xs).horizon → w' ≤ (end_of s' xs').horizon
    → let g = min w w' in
    ((z : ℤ) → I64 z → read_by journey_figures g (bestℤ journey_figures (within w (kept_of (end_of s xs))) w z)
    ≡ read_by journey_figures g (bestℤ journey_figures (within w' (kept_of (end_of s' xs'))) w' z))
    ↔ (CoveredBy g (Admitted s xs) (Admitted s' xs') × CoveredBy g (Admitted s' xs') (Admitted s xs))
