-- By its rides.
use Rattle.timetable.proofs.JourneyLaws.{journey-made}
use Rattle.timetable.proofs.journeys.journey_of.Goals as goal

pub returns : goal.returns
returns c = journey-made c.args.r.now c.ride_of.ensures c.middle_of.ensures c.last_of.ensures
