-- The lines of the first starred instance: "journey 300 1320 1 5 0 0" and "horizon 21600 limits 0".
use Rattle.refusal.specs.declared.Accepted.TheVariants.{Taken}
use Rattle.std.specs.Prelude.{◌≡◌, List, [], ◌∷◌, ◌++◌, ℕ, Ok}
use Rattle.profile.specs.declared.Journey.{Journey}
use Rattle.load.specs.declared.Load.{Load}
use Rattle.best.specs.Best.{kept_of}
use Rattle.lines.specs.Lines.{journey_line_of, horizon_line_of, lines_of}

-- "journey 300 1320 1 5 0 0"
abbrev pub first_journey : List ℕ
first_journey =
    106 ∷ 111 ∷ 117 ∷ 114 ∷ 110 ∷ 101 ∷ 121 ∷ 32 ∷ 51 ∷ 48 ∷ 48 ∷ 32 ∷ 49 ∷ 51 ∷ 50 ∷ 48 ∷ 32 ∷ 49 ∷ 32 ∷ 53 ∷ 32 ∷ 48 ∷ 32 ∷ 48 ∷ 10 ∷ []

-- "horizon 21600 limits 0"
abbrev pub first_horizon : List ℕ
first_horizon =
    104 ∷ 111 ∷ 114 ∷ 105 ∷ 122 ∷ 111 ∷ 110 ∷ 32 ∷ 50 ∷ 49 ∷ 54 ∷ 48 ∷ 48 ∷ 32 ∷ 108 ∷ 105 ∷ 109 ∷ 105 ∷ 116 ∷ 115 ∷ 32 ∷ 48 ∷ 10 ∷ []

-- leaves at 300, arrives at 1320 by one ride with 5 minutes of walking, from origin 0 to target 0
pub record First (j : Journey) : Type 0 where
  pub leave : j.leave ≡ 300
  pub arrival : j.arrival ≡ 1320
  pub rides : j.rides ≡ 1
  pub walk : j.walk ≡ 5
  pub origin : j.origin ≡ 0
  pub target : j.target ≡ 0

abbrev pub FirstJourney : Type 0
FirstJourney = (j : Journey) → First j → journey_line_of j ≡ first_journey

abbrev pub FirstHorizon : Type 0
FirstHorizon = horizon_line_of 21600 0 ≡ first_horizon

-- a load that keeps that journey alone, up to the whole horizon
abbrev pub FirstLines : Type 0
FirstLines =
    (l : Load) (j : Journey) → First j → kept_of l ≡ j ∷ [] → l.horizon ≡ 21600 → l.limits ≡ 0
    → lines_of (Ok Taken) l ≡ first_journey ++ first_horizon
