-- The instances of specs/Instances.antt, by computation.
use mathlib.Core.Path.{refl}
use Rattle.ways.specs.Rides.{rides, first_rides, joined_rides, directs, changes}
use Rattle.profile.specs.Figures.{lexb}
use Rattle.offers.specs.Order.{clash}
use Rattle.offers.specs.Offers.{network_of}
use Rattle.counted.specs.Joins.{join_events, change_events, events}
use Rattle.limited.specs.Limited.{events_of, offers_within, joins_within, finished_within, search_within}
use Rattle.limited.specs.Margin.{alightings, target_arrivals, earliest, margin_within}
use Rattle.limited.specs.Instances.{WithinLimits}

pub within-limits : WithinLimits
unfolding lexb clash rides first_rides joined_rides directs changes network_of join_events change_events events events_of offers_within
    joins_within finished_within search_within alightings target_arrivals earliest margin_within
within-limits = record {
  zero_kept = refl;
  zero_stopped = refl;
  one_kept = refl;
  two_kept = refl;
  two_tested = refl;
  three_stopped = refl;
  four_finished = refl;
  five_finished = refl;
  five_tested = refl;
  direct_tested = refl;
  direct_finished = refl;
  margin_two = refl;
  margin_four = refl;
  margin_finished = refl;
  margin_nothing = refl;
}
