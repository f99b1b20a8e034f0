-- The verdict on a connection, by a load: there is none before a search is finished; else the first cause against it; else, if it is due
-- by the horizon, where the list has it, one as good, or one that beats it.
use Rattle.std.specs.Prelude.{Bool, cond, ◌&&◌, List, ◌++◌, ℕ, ◌+◌, ◌-◌, ◌*◌, eqb, leb, take, get_or, None, Option, Some, is_none}
use Rattle.settings.specs.declared.Settings.{Settings}
use Rattle.stops.specs.declared.Stop.{Stop}
use Rattle.stops.specs.Sound.{stop_at}
use Rattle.rules.specs.declared.Rule.{Rule}
use Rattle.profile.specs.declared.Ride.{Ride}
use Rattle.profile.specs.declared.Journey.{Journey}
use Rattle.profile.specs.Journeys.{no_ride}
use Rattle.places.specs.Places.{places_of}
use Rattle.transfer.specs.Copied.{parents_of}
use Rattle.offers.specs.Offers.{ride_of}
use Rattle.load.specs.declared.Load.{Load}
use Rattle.best.specs.Best.{kept_of}
use Rattle.connection.specs.declared.Connection.{Connection}
use Rattle.connection.specs.declared.Cause.{Cause}
use Rattle.connection.specs.declared.FoundLeg.{FoundLeg}
use Rattle.connection.specs.declared.Way.{Way}
use Rattle.connection.specs.Tests.{first_of, asking}
use Rattle.connection.specs.Find.{way_of, boards, alights}
use Rattle.connection.specs.Legs.{ride_tests, legs_tests}
use Rattle.connection.specs.Ends.{end_tests, count_tests}
use Rattle.connection.specs.Changes.{change_tests}
use Rattle.listing.specs.declared.Verdict.{Verdict}
use Rattle.listing.specs.declared.Verdict.TheVariants.{NotFinished, Impossible}
use Rattle.listing.specs.Listed.{judged_in}

-- ---- the rides of n legs

unfoldable pub ride_found : FoundLeg → Ride
ride_found f = ride_of (boards f) (alights f)

unfoldable pub last_leg : ℕ → Way → FoundLeg
last_leg n w = cond (eqb n 1) w.first (cond (eqb n 2) w.second w.third)

-- of fewer than three there is no middle ride, and of one no last
unfoldable pub middle_ride : ℕ → Way → Ride
middle_ride n w = cond (eqb n 3) (ride_found w.second) no_ride

unfoldable pub last_ride : ℕ → Way → Ride
last_ride n w = cond (eqb n 1) no_ride (ride_found (last_leg n w))

-- the journey of the calls found, by walks in minutes
unfoldable pub journey_on : Settings → Connection → Way → Journey
journey_on s c w = record {
  leave = (boards w.first).departure - get_or s.origin_walks c.origin 0 * 60;
  arrival = (alights (last_leg c.rides w)).arrival + get_or s.target_walks c.target 0 * 60;
  rides = c.rides;
  walk = get_or s.origin_walks c.origin 0;
  origin = c.origin;
  target = c.target;
  first = ride_found w.first;
  middle = middle_ride c.rides w;
  last = last_ride c.rides w;
}

-- ---- the causes, in order

-- the first stop is of the origin, the last of the target, and there is time to walk
unfoldable pub ends_asked : Settings → List Stop → Connection → Way → List (Bool × Cause)
ends_asked s stops c w =
    end_tests s.origins s.targets c.origin c.target
    (stop_at stops (boards w.first).stop).members (stop_at stops (alights (last_leg c.rides w)).stop).members
    (get_or s.origin_walks c.origin 0) (boards w.first).departure

-- each of the n − 1 changes can be made, by the rules and the change time
unfoldable pub changes_asked : List Stop → ℕ → List Rule → ℕ → ℕ → Way → List (Bool × Cause)
changes_asked stops count rules seconds n w =
    asking (leb 2 n)
    (change_tests 0 rules (parents_of stops) (places_of (take count stops)) seconds
    (boards w.first) (alights w.first) (boards w.second))
    ++ asking (leb 3 n)
    (change_tests 1 rules (parents_of stops) (places_of (take count stops)) seconds
    (boards w.second) (alights w.second) (boards w.third))

-- how many rides; leg by leg; the ends; how many changes; change by change
unfoldable pub causes_by : Settings → List Stop → ℕ → List Rule → Connection → Way → List (Bool × Cause)
causes_by s stops count rules c w =
    ride_tests c.rides
    ++ (legs_tests c.rides c.legs w
    ++ (ends_asked s stops c w
    ++ (count_tests c.rides s.max_transfers
    ++ changes_asked stops count rules s.transfer_seconds c.rides w)))

-- ---- of a load

-- its list can be marked by: a search within a limit that was stopped is not finished (request 12)
unfoldable pub finished_by : Bool → Option ℕ → Bool
finished_by searched limit = searched && is_none limit

abbrev pub is_finished : Load → Bool
is_finished l = finished_by l.searched l.limit

-- the calls that the connection names
abbrev pub way_in : Load → Connection → Way
way_in l c = way_of (take l.call_count l.calls) c.legs

abbrev pub journey_in : Load → Connection → Journey
journey_in l c = journey_on l.settings c (way_in l c)

-- none of these tests reads the verdict
abbrev pub causes : Load → Connection → List (Bool × Cause)
causes l c = causes_by l.settings l.stops l.stop_count (take l.rule_count l.rules) c (way_in l c)

-- the first cause that holds, if there is one
abbrev pub cause_of : Load → Connection → Option Cause
cause_of l c = first_of (causes l c)

-- a cause decides; without one the list does
abbrev pub judged_by : Option Cause → Verdict → Verdict
judged_by (Some x) v = Impossible x
judged_by None v = v

unfoldable pub verdict_of : Load → Connection → Verdict
verdict_of l c = cond (is_finished l) (judged_by (cause_of l c) (judged_in (kept_of l) l.horizon (journey_in l c))) NotFinished
