-- The rows of one ride and of two, by the places of the calls in order: `journeys` of crate `ways` lists them; all rows that a search
-- offers are `route_rows`. Here stands what a place is to it.
use Rattle.std.specs.Prelude.{Bool, List, ℕ, ◌*◌, leb}
use Rattle.laws.specs.Lists.{filterb, span}
use Rattle.laws.specs.Bits.{bits_of}
use Rattle.ways.specs.Rides.{Leg, First, Network, journeys}
use Rattle.profile.specs.Found.{Row}
use Rattle.profile.specs.Journeys.{row_of}
use Rattle.search_input.specs.declared.FeedCall.{FeedCall}
use Rattle.search_input.specs.declared.FirstRide.{FirstRide}
use Rattle.search_input.specs.Feed.{same_run, leave_of, arrival_of}

-- what the loops read: the call at each place of the calls in order; the origins and the targets of a stop, each a mask of four digits;
-- and the walk of each origin and each target, in minutes
pub record Sheet : Type 0 where
  pub at : ℕ → FeedCall
  pub origins : ℕ → ℕ
  pub targets : ℕ → ℕ
  pub origin_walk : ℕ → ℕ
  pub target_walk : ℕ → ℕ

-- whether a first ride joins a ride that boards at a place
abbrev pub Joins : Type 0
Joins = FirstRide → ℕ → Bool

-- ---- rides and rows

-- the first ride from origin o that boards at i and alights at k
unfoldable pub first_of : Sheet → ℕ → ℕ → ℕ → FirstRide
first_of s i o k =
    record {
      leave = leave_of (s.origin_walk o) (s.at i).departure;
      walk = s.origin_walk o;
      origin = o;
      board = i;
      alight = k;
      trip = (s.at i).trip;
      day = (s.at i).day;
      stop = (s.at k).stop;
      arrival = (s.at k).arrival;
    }

-- what is offered of a journey of so many rides that begins with f and whose last arrives at `arrival`, to target x, but for the calls of
-- its other rides
unfoldable pub offer_of : Sheet → FirstRide → ℕ → ℕ → ℕ → Row
offer_of s f rides arrival x =
    record {
      leave = f.leave;
      arrival = arrival_of (s.target_walk x) arrival;
      rides = rides;
      walk = f.walk;
      origin = f.origin;
      target = x;
      board = f.board;
      alight = f.alight;
      board2 = 0;
      alight2 = 0;
      middle_board = 0;
      middle_alight = 0;
    }

-- one ride, to target x
unfoldable pub direct_row : Sheet → FirstRide → ℕ → Row
direct_row s f x = row_of f.leave (arrival_of (s.target_walk x) f.arrival) 1 f.walk f.origin x f.board f.alight 0 0 0 0

-- and then a ride that boards at j and alights at m, to target x
unfoldable pub change_row : Sheet → FirstRide → ℕ → ℕ → ℕ → Row
change_row s f j m x = row_of f.leave (arrival_of (s.target_walk x) (s.at m).arrival) 2 f.walk f.origin x f.board f.alight j m 0 0

-- and then a middle ride, which boards at b and alights at a, and a last one from j to m, to target x
unfoldable pub three_row : Sheet → FirstRide → ℕ → ℕ → ℕ → ℕ → ℕ → Row
three_row s f b a j m x =
    row_of f.leave (arrival_of (s.target_walk x) (s.at m).arrival) 3 f.walk f.origin x f.board f.alight j m b a

-- the rows of a first ride, alone and with a last ride
abbrev pub first_at : Sheet → First ℕ → FirstRide
first_at s f = first_of s f.ride.b f.o f.ride.a

abbrev pub direct_by : Sheet → First ℕ → ℕ → Row
direct_by s f x = direct_row s (first_at s f) x

abbrev pub change_by : Sheet → First ℕ → Leg ℕ → ℕ → Row
change_by s f l x = change_row s (first_at s f) l.b l.a x

-- what the rides are made of; a join reads no origin, so the first is named
unfoldable pub network_of : Sheet → Joins → Network ℕ
network_of s joins =
    record {
      same = λ i k. same_run (s.at i) (s.at k);
      board = λ i. (s.at i).board;
      alight = λ i. (s.at i).alight;
      origins = λ i. filterb (λ o. leb (s.origin_walk o * 60) (s.at i).departure) (bits_of (s.origins (s.at i).stop));
      targets = λ i. bits_of (s.targets (s.at i).stop);
      joins = λ r j. joins (first_of s r.b 0 r.a) j;
    }

-- every row of one ride or two, in order. n: how many calls there are
unfoldable pub rows : Sheet → Joins → ℕ → ℕ → List Row
rows s joins depth n = journeys (network_of s joins) (direct_by s) (change_by s) depth (span 0 n)
