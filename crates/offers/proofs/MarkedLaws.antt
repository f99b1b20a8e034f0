-- The starred instances on offers, by computation.
use mathlib.Core.Path.{refl}
use Rattle.ways.specs.Rides.{rides, first_rides, joined_rides}
use Rattle.ways.specs.Routes.{onward, pass, routes}
use Rattle.profile.specs.Figures.{lexb}
use Rattle.offers.specs.Order.{clash}
use Rattle.offers.specs.Offers.{network_of, offers}
use Rattle.offers.specs.Search.{search_of}
use Rattle.offers.specs.Marked.{MarkedOffers}

pub marked-offers : MarkedOffers
unfolding lexb clash rides first_rides joined_rides onward pass routes network_of offers search_of
marked-offers =
    record {
      one_ride = refl;
      at_zero = refl;
      not_boarded = refl;
      at_horizon = refl;
      past_horizon = refl;
      joins = refl;
      joins_not = refl;
      latest_3601 = refl;
      latest_3600 = refl;
    }
