-- A small paper, and a connection for each verdict and each cause: what `verdict_of` says of them after its steps, by computation. So the
-- premises of the claims can be met.
use Rattle.std.specs.Prelude.{◌≡◌, true, List, [], ◌∷◌, map, ℕ, pos, None, Some}
use Rattle.settings.specs.declared.Settings.{Settings}
use Rattle.load.specs.declared.Load.{Load}
use Rattle.load.specs.Steps.{Opening, undated}
use Rattle.load.specs.FillStep.{stop, call, rule}
use Rattle.load.specs.Sound.{Opens}
use Rattle.steps.specs.Steps.{Step, filling, search}
use Rattle.steps.specs.Lists.{end_of}
use Rattle.connection.specs.declared.Leg.{Leg}
use Rattle.connection.specs.declared.Connection.{Connection}
use Rattle.connection.specs.declared.Cause.TheVariants.{RideCount, NoCall, BoardingBarred, AlightingBarred, NotLater, NotOrigin}
use Rattle.connection.specs.declared.Cause.TheVariants.{NotTarget, TooEarly, TooManyChanges, SameRun, Forbidden, NoChange, TooShort}
use Rattle.listing.specs.declared.Verdict.{Verdict}
use Rattle.listing.specs.declared.Verdict.TheVariants.{NotFinished, Late, Listed, AsGood, Beaten, Impossible}
use Rattle.verdict.specs.Verdicts.{verdict_of}

-- ---- the paper: walk 5, target walk 2, a change time of 3 minutes, one change

abbrev pub paper_settings : Settings
paper_settings = record {
  origins = 1;
  targets = 1;
  origin_walks = 5 ∷ 0 ∷ 0 ∷ 0 ∷ [];
  target_walks = 2 ∷ 0 ∷ 0 ∷ 0 ∷ [];
  transfer_seconds = 180;
  max_transfers = 1;
  now = pos 0;
  epochs = pos 0 ∷ pos 0 ∷ pos 0 ∷ [];
}

abbrev pub paper : Opening
paper = undated paper_settings

-- a station, which is of no place
abbrev pub station : ℕ → ℕ → Step
station id members = filling (stop (id ∷ []) None None (record { location_type = 1; degrees = None; members = members }))

-- trip, sequence, stop, time, pickup and drop-off
abbrev pub call_at : ℕ → ℕ → ℕ → ℕ → ℕ → ℕ → Step
call_at trip sequence at time pickup off =
    filling (call [] (record {
      trip = trip;
      day = 0;
      sequence = sequence;
      stop = at;
      arrival = Some time;
      departure = Some time;
      pickup = pickup;
      drop_off = off;
    }))

-- stop 0 is of the origin, stop 3 of the target; from stop 1 to stop 2 one may not change, and to stop 4 it takes 240 seconds
abbrev pub typed : List Step
typed =
    station 65 1 ∷ station 66 0 ∷ station 67 0 ∷ station 68 16 ∷ station 69 0 ∷ station 70 0
    ∷ filling (rule (record { from = 1; to = 4; transfer_type = 2; seconds = Some 240 }))
    ∷ filling (rule (record { from = 1; to = 2; transfer_type = 3; seconds = None }))
    -- two trips alike, one that leaves earlier and arrives later, one that is due after the horizon
    ∷ call_at 1 1 0 600 0 0 ∷ call_at 1 2 3 1200 0 0
    ∷ call_at 2 1 0 600 0 0 ∷ call_at 2 2 3 1200 0 0
    ∷ call_at 3 1 0 500 0 0 ∷ call_at 3 2 3 1300 0 0
    ∷ call_at 4 1 0 700 0 0 ∷ call_at 4 2 3 21500 0 0
    -- boarding barred, alighting barred, too early
    ∷ call_at 5 1 0 700 1 0 ∷ call_at 5 2 1 800 0 0 ∷ call_at 5 3 3 900 0 1
    ∷ call_at 6 1 0 299 0 0 ∷ call_at 6 2 3 2000 0 0
    -- to stop 1, and on from stops 2, 4 and 5
    ∷ call_at 7 1 0 640 0 0 ∷ call_at 7 2 1 1000 0 0 ∷ call_at 7 3 3 1900 0 0
    ∷ call_at 8 1 2 1300 0 0 ∷ call_at 8 2 3 1500 0 0
    ∷ call_at 9 1 4 1239 0 0 ∷ call_at 9 2 3 1600 0 0
    ∷ call_at 10 1 5 1400 0 0 ∷ call_at 10 2 3 1700 0 0
    ∷ search
    ∷ []

-- ---- the connections

abbrev pub by : ℕ → ℕ → ℕ → Leg
by trip board alight = record { trip = trip; day = 0; board = board; alight = alight }

abbrev pub from : ℕ → ℕ → ℕ → List Leg → Connection
from origin target rides legs = record { origin = origin; target = target; rides = rides; legs = legs }

abbrev pub one : Leg → Connection
one g = from 0 0 1 (g ∷ g ∷ g ∷ [])

abbrev pub two : Leg → Leg → Connection
two g h = from 0 0 2 (g ∷ h ∷ h ∷ [])

abbrev pub named : List Connection
named =
    one (by 1 1 2) ∷ one (by 2 1 2) ∷ one (by 3 1 2) ∷ one (by 4 1 2)
    ∷ from 0 0 0 (by 1 1 2 ∷ by 1 1 2 ∷ by 1 1 2 ∷ []) ∷ from 0 0 4 (by 1 1 2 ∷ by 1 1 2 ∷ by 1 1 2 ∷ [])
    ∷ one (by 1 7 2) ∷ one (by 11 1 2) ∷ one (by 1 1 3) ∷ one (by 5 1 2) ∷ one (by 5 2 3) ∷ one (by 1 2 1)
    ∷ one (by 7 2 3) ∷ from 1 0 1 (by 1 1 2 ∷ by 1 1 2 ∷ by 1 1 2 ∷ []) ∷ one (by 7 1 2) ∷ from 0 1 1 (by 1 1 2 ∷ by 1 1 2 ∷ by 1 1 2 ∷ [])
    ∷ one (by 6 1 2)
    ∷ from 0 0 3 (by 7 1 2 ∷ by 8 1 2 ∷ by 8 1 2 ∷ [])
    ∷ two (by 7 1 2) (by 7 2 3) ∷ two (by 7 1 2) (by 8 1 2) ∷ two (by 7 1 2) (by 10 1 2) ∷ two (by 7 1 2) (by 9 1 2)
    ∷ []

abbrev pub said : List Verdict
said =
    Listed 0 ∷ AsGood 0 ∷ Beaten 0 ∷ Late
    ∷ Impossible (RideCount 0) ∷ Impossible (RideCount 4)
    ∷ Impossible (NoCall 0 7) ∷ Impossible (NoCall 0 1) ∷ Impossible (NoCall 0 3) ∷ Impossible (BoardingBarred 0)
    ∷ Impossible (AlightingBarred 0) ∷ Impossible (NotLater 0)
    ∷ Impossible NotOrigin ∷ Impossible NotOrigin ∷ Impossible NotTarget ∷ Impossible NotTarget
    ∷ Impossible (TooEarly 300 299)
    ∷ Impossible (TooManyChanges 1)
    ∷ Impossible (SameRun 0) ∷ Impossible (Forbidden 0 1) ∷ Impossible (NoChange 0) ∷ Impossible (TooShort 0 240 1000 1239)
    ∷ []

-- each connection of a list, by one load
abbrev pub verdicts_of : Load → List Connection → List Verdict
verdicts_of l cs = map (verdict_of l) cs

pub record Instances : Type 0 where
  pub opens : Opens paper
  pub finished : (end_of paper typed).searched ≡ true
  pub each : verdicts_of (end_of paper typed) named ≡ said
  -- without a search
  pub none : verdicts_of (end_of paper []) (one (by 1 1 2) ∷ []) ≡ NotFinished ∷ []
