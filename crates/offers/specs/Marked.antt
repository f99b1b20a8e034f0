-- The scope's starred instances on offers and on the horizon, as one table.
use Rattle.std.specs.Prelude.{◌≡◌, true, false, cond, not, ◌&&◌, List, [], ◌∷◌, map, ℕ, ◌+◌, eqb, leb}
use Rattle.refusal.specs.First.{answer_number}
use Rattle.calls.specs.declared.Call.{Call}
use Rattle.profile.specs.declared.Journey.{Journey}
use Rattle.profile.specs.declared.figures.Figures.{Figures}
use Rattle.profile.specs.Kept.{searched}
use Rattle.profile.specs.Journeys.{no_ride, journey_figures}
use Rattle.profile.specs.Instances.{figures_of, a_second_apart}
use Rattle.offers.specs.Offers.{Timetable, offers}
use Rattle.offers.specs.Search.{Outcome, clashing, falling, found, answer_of, found_by, search_of}

-- stop 0 is of the one origin, walk 5; stop 1 of the one target, walk 2; a change takes 3 minutes, at one stop
abbrev pub marked : List Call → Timetable
marked cs =
    record {
      calls = cs;
      members = λ s. cond (eqb s 0) 1 (cond (eqb s 1) 16 0);
      origins = 1;
      targets = 1;
      origin_walk = λ o. 5;
      target_walk = λ k. 2;
      max_transfers = 1;
      joins = λ f c. not (eqb f.trip c.trip && eqb f.day c.day) && (eqb f.to c.stop && leb (f.arrival + 180) c.departure);
    }

-- a call of a trip at a stop and time
abbrev pub call_at : ℕ → ℕ → ℕ → ℕ → Call
call_at trip seq stop time =
    record {
      trip = trip;
      day = 0;
      sequence = seq;
      stop = stop;
      arrival = time;
      departure = time;
      board = true;
      alight = true;
      board_request = false;
      alight_request = false;
    }

-- the figures of what is offered, and of what a search from the horizon 21600 keeps
abbrev pub offered : List Call → List Figures
offered cs = map journey_figures (offers (marked cs))

abbrev pub kept_by : Outcome → List Figures
kept_by clashing = []
kept_by falling = []
kept_by (found ks h l) = map journey_figures ks

abbrev pub kept : List Call → List Figures
kept cs = kept_by (search_of (marked cs) 21600 0)

-- a journey with these figures, and the number that a search from the horizon 21600 is answered with, 0 where it is taken
abbrev pub journey_with : Figures → Journey
journey_with f =
    record {
      leave = f.leave;
      arrival = f.arrival;
      rides = f.rides;
      walk = f.walk;
      origin = 0;
      target = 0;
      first = no_ride;
      middle = no_ride;
      last = no_ride;
    }

abbrev pub number_for : List Figures → ℕ
number_for fs = answer_number (answer_of (found_by (searched journey_figures 64 3600 21600 0 (map journey_with fs))))

pub record MarkedOffers : Type 0 where
  -- trip 1 departs 600, arrives 1200: 300, 1320, 1 ride, walk 5; in any order of the calls
  pub one_ride : offered (call_at 1 2 1 1200 ∷ call_at 1 1 0 600 ∷ []) ≡ figures_of 300 1320 1 5 ∷ []
  -- departure 300 leaves at 0; 299 isn't boarded
  pub at_zero : offered (call_at 1 1 0 300 ∷ call_at 1 2 1 1200 ∷ []) ≡ figures_of 0 1320 1 5 ∷ []
  pub not_boarded : offered (call_at 1 1 0 299 ∷ call_at 1 2 1 1200 ∷ []) ≡ []
  -- alighting 21480 is kept, 21481 isn't
  pub at_horizon : kept (call_at 1 1 0 600 ∷ call_at 1 2 1 21480 ∷ []) ≡ figures_of 300 21600 1 5 ∷ []
  pub past_horizon : kept (call_at 1 1 0 600 ∷ call_at 1 2 1 21481 ∷ []) ≡ []
  -- arrival 1000 joins 1180, not 1179
  pub joins : offered (call_at 1 1 0 600 ∷ call_at 1 2 2 1000 ∷ call_at 2 1 2 1180 ∷ call_at 2 2 1 1500 ∷ []) ≡ figures_of 300 1620 2 5 ∷ []
  pub joins_not : offered (call_at 1 1 0 600 ∷ call_at 1 2 2 1000 ∷ call_at 2 1 2 1179 ∷ call_at 2 2 1 1500 ∷ []) ≡ []
  -- 65 unbeaten, the latest 3601: taken; the latest 3600: 11
  pub latest_3601 : number_for (a_second_apart 537 65) ≡ 0
  pub latest_3600 : number_for (a_second_apart 536 65) ≡ 11
