-- What a search reads of a load: the calls taken, each stop's members, the walks, and which rides join.
use Rattle.std.specs.Prelude.{Bool, false, cond, ◌&&◌, ℕ, eqb, ltb, take, get_or, Option}
use Rattle.stops.specs.Sound.{stop_at}
use Rattle.calls.specs.declared.Call.{Call}
use Rattle.profile.specs.declared.Ride.{Ride}
use Rattle.places.specs.Places.{places_of}
use Rattle.transfer.specs.Copied.{parents_of}
use Rattle.transfer.specs.Changes.{transfer_of, join_of}
use Rattle.offers.specs.Offers.{Timetable}
use Rattle.load.specs.declared.Load.{Load}
use Rattle.stops.specs.Sizes.{stop_room}

-- the change from one stop to another, by the rules taken, the parents and the places
abbrev pub change_in : Load → ℕ → ℕ → Option ℕ
change_in l from to =
    transfer_of (take l.rule_count l.rules) (parents_of l.stops) (places_of (take l.stop_count l.stops)) from to
    l.settings.transfer_seconds

-- a ride and a call are of one trip and day
abbrev pub one_run : Ride → Call → Bool
one_run f b = eqb f.trip b.trip && eqb f.day b.day

-- `join`; a stop past the 128th, which no step takes (`JoinsKnown`), joins nothing
abbrev pub joins_in : Load → Ride → Call → Bool
joins_in l f b =
    cond (ltb f.to stop_room && ltb b.stop stop_room) (join_of (change_in l f.to b.stop) (one_run f b) f.arrival b.departure) false

unfoldable pub timetable_of : Load → Timetable
timetable_of l = record {
  calls = take l.call_count l.calls;
  members = λ k. (stop_at l.stops k).members;
  origins = l.settings.origins;
  targets = l.settings.targets;
  origin_walk = λ o. get_or l.settings.origin_walks o 0;
  target_walk = λ x. get_or l.settings.target_walks x 0;
  max_transfers = l.settings.max_transfers;
  joins = joins_in l;
}
