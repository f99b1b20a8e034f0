-- A load that the steps make: sound stops, calls, rules and week, every call at one of its stops, journeys in order, none before the
-- search, one horizon until then, and a search stopped only where one may be.
use Rattle.refusal.specs.declared.Accepted.TheVariants.{Taken}
use Rattle.std.specs.Prelude.{ℕ, ◌-◌, ◌≤◌, ◌≡◌, true, false, List, length, take, drop, replicate, None, Option, Some, Ok}
use Rattle.stops.specs.Sound.{StopsSound}
use Rattle.calls.specs.Sound.{TableSound, StopsKnown}
use Rattle.rules.specs.Sound.{RulesSound}
use Rattle.profile.specs.Best.{Ordered}
use Rattle.profile.specs.Journeys.{no_journey, journey_figures}
use Rattle.week.specs.Sound.{WeekSound}
use Rattle.load.specs.declared.Load.{Load}
use Rattle.load.specs.Load.{stopped, table_of}
use Rattle.load.specs.Steps.{Opening, open_answer, opened}
use Rattle.load.specs.FillStep.{FillStep, filled}
use Rattle.profile.specs.Sizes.{kept_room}

-- dates come by threes
abbrev pub Three : Option (List ℕ) → Type 0
Three None = Unit {0}
Three (Some dates) = length dates ≡ 3

-- the opening is not sent back
abbrev pub Opens : Opening → Type 0
Opens o = (open_answer o ≡ Ok Taken) × Three o.dates

pub record Sound (l : Load) : Type 0 where
  pub stops : StopsSound l.stops l.stop_count
  pub table : TableSound (table_of l)
  pub calls_known : StopsKnown l.stop_count (table_of l)
  pub rules : RulesSound l.stop_count l.rules l.rule_count
  pub few : l.journey_count ≤ kept_room
  pub long : length l.journeys ≡ kept_room
  pub blank : drop l.journey_count l.journeys ≡ replicate (kept_room - l.journey_count) no_journey
  -- by arrival, rides and walk, least first, then latest leave
  pub in_order : Ordered journey_figures (take l.journey_count l.journeys)
  -- before the search
  pub none_kept : l.searched ≡ false → l.journey_count ≡ 0
  pub same_horizon : l.searched ≡ false → l.horizon ≡ l.table_horizon
  pub same_limits : l.searched ≡ false → l.limits ≡ l.table_limits
  -- a load that holds a limit is searched, and has at most one change, as a limited search with two is refused (RULES 11.3)
  pub stopped_search : stopped l ≡ true → l.searched ≡ true
  pub stopped_change : stopped l ≡ true → l.settings.max_transfers ≤ 1
  pub week : WeekSound l.week

abbrev pub OpenSound : Type 0
OpenSound = (o : Opening) → Sound (opened o)

abbrev pub FillKeepsSound : Type 0
FillKeepsSound = (l : Load) (x : FillStep) → Sound l → Sound (filled l x).load
