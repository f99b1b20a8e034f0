-- Demands 2 and 3 through the load: what a searched load holds, and when best agrees of two; of searches that were not stopped. The lemmas
-- behind the demands of crate `comparison`, which speak of what was handed in.
use Rattle.std.specs.Prelude.{◌≡◌, ◌↔◌, true, false, ℕ, min, ℤ, Option}
use mathlib.Core.List.{List, [], Memᴰ}
use Rattle.profile.specs.declared.Journey.{Journey}
use Rattle.profile.specs.declared.figures.Figures.{Figures}
use Rattle.profile.specs.Figures.{covᶠ, dueᶠ}
use Rattle.profile.specs.Front.{front}
use Rattle.profile.specs.Fall.{up_to, fall}
use Rattle.profile.specs.Best.{read_by, ordered}
use Rattle.profile.specs.Journeys.{journey_figures}
use Rattle.offers.specs.Covered.{I64, CoveredBy}
use Rattle.load.specs.declared.Load.{Load}
use Rattle.load.specs.Load.{stopped}
use Rattle.load.specs.Steps.{Opening}
use Rattle.load.specs.Sound.{Opens}
use Rattle.best.specs.Best.{answer_of, kept_of, best_spec}
use Rattle.steps.specs.Steps.{Step}
use Rattle.steps.specs.Lists.{end_of, start_of, Admitted, offers_of}
use Rattle.profile.specs.Sizes.{kept_room, least_horizon}

pub record Holds (s : Opening) (xs : List Step) : Type 0 where
  -- the list is the unbeaten offers due by the horizon, the older of equals, by arrival, rides and walk, least first, then latest leave
  pub unbeaten : kept_of (end_of s xs)
      ≡ ordered journey_figures (front (covᶠ journey_figures) (dueᶠ journey_figures) (end_of s xs).horizon (offers_of s xs))
  -- what is offered is what is admitted
  pub admitted : (j : Journey) → Memᴰ j (offers_of s xs) ↔ Admitted s xs j
  -- each admitted journey due by the horizon is equalled or beaten by one of the list
  pub complete : CoveredBy (end_of s xs).horizon (Admitted s xs) (λ j. Memᴰ j (kept_of (end_of s xs)))
  -- horizon and mark fall from the table's by the offers alone: at a 65th that none beats, to the latest arrival less 1
  pub fell : fall (covᶠ journey_figures) (dueᶠ journey_figures) kept_room least_horizon (start_of s xs).table_horizon
      (start_of s xs).table_limits [] (offers_of s xs)
      ≡ up_to (end_of s xs).horizon (end_of s xs).limits

-- a searched load that was not stopped holds this
abbrev pub SearchedHolds : Type 0
SearchedHolds = (s : Opening) (xs : List Step) → Opens s → (end_of s xs).searched ≡ true → stopped (end_of s xs) ≡ false → Holds s xs

-- best's answer, read as none if it is due after g, by its leave, arrival, rides and walk
abbrev pub read : ℕ → Load → ℤ → Option Figures
read g l z = read_by journey_figures g (answer_of (best_spec l z))

-- best agrees at every second exactly if each admits what equals or beats the other's; of any two lists, searched or not, of which none was
-- stopped
abbrev pub BestAgrees : Type 0
BestAgrees = (s s' : Opening) (xs xs' : List Step) → s.settings.now ≡ s'.settings.now → Opens s → Opens s'
    → stopped (end_of s xs) ≡ false → stopped (end_of s' xs') ≡ false
    → let g = min (end_of s xs).horizon (end_of s' xs').horizon in
    ((z : ℤ) → I64 z → read g (end_of s xs) z ≡ read g (end_of s' xs') z)
    ↔ (CoveredBy g (Admitted s xs) (Admitted s' xs') × CoveredBy g (Admitted s' xs') (Admitted s xs))
