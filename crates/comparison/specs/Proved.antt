-- The demands, and what requests 03, 08, 11 and 12 claim of lists of steps. The contract of `demands()` cites this record, so that no part
-- of it can go unseen.
use Rattle.comparison.specs.Demands.{Demand1, Demand2, OnlyRunning, Demand3}
use Rattle.steps.specs.Dated.{DatedSame, LateServices, NameUnread}
use Rattle.comparison.specs.Again.{Withdrawals}
use Rattle.comparison.specs.Limited.{Limits}
use Rattle.comparison.specs.Displays.{Displays}
use Rattle.comparison.specs.Witness.{Met}
use Rattle.comparison.specs.Marked.{Starred}

pub record Proved : Type 0 where
  pub first : Demand1
  pub second : Demand2
  -- request 03
  pub running : OnlyRunning
  pub dated : DatedSame
  pub late : LateServices
  pub unread : NameUnread
  pub third : Demand3
  -- request 11
  pub withdrawals : Withdrawals
  -- request 12
  pub limits : Limits
  -- the third with windows as horizons, for groups that have a display (request 08)
  pub displays : Displays
  -- the premises can be met
  pub met : Met
  pub starred : Starred
