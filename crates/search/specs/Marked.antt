-- The scope's starred instance on joins, of every load: "Same stop, 3 minutes: arrival 1000 joins 1180, not 1179."
use Rattle.std.specs.Prelude.{◌≡◌, true, false, ◌<◌}
use Rattle.calls.specs.declared.Call.{Call}
use Rattle.profile.specs.declared.Ride.{Ride}
use Rattle.load.specs.declared.Load.{Load}
use Rattle.search.specs.Timetable.{one_run, joins_in}
use Rattle.stops.specs.Sizes.{stop_room}

-- a load with a change time of 3 minutes and no rule, a ride that arrives at 1000, and a call of another trip or day at the stop where it
-- ends
pub record SameStop (l : Load) (f : Ride) (b : Call) : Type 0 where
  pub three_minutes : l.settings.transfer_seconds ≡ 180
  pub no_rule : l.rule_count ≡ 0
  pub other_run : one_run f b ≡ false
  pub at_stop : f.to ≡ b.stop
  pub known : b.stop < stop_room
  pub arrives : f.arrival ≡ 1000

pub record MarkedJoins : Type 0 where
  pub joins : (l : Load) (f : Ride) (b : Call) → SameStop l f b → b.departure ≡ 1180 → joins_in l f b ≡ true
  pub joins_not : (l : Load) (f : Ride) (b : Call) → SameStop l f b → b.departure ≡ 1179 → joins_in l f b ≡ false
