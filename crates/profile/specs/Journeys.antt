-- The figures of a journey and of a row (a journey while the search runs), the tests on rows, and the blank ones.
use Rattle.std.specs.Prelude.{Bool, false, ℕ}
use Rattle.profile.specs.declared.Ride.{Ride}
use Rattle.profile.specs.declared.Journey.{Journey}
use Rattle.profile.specs.Found.{Row}
use Rattle.profile.specs.Figures.{Figures, covers}

abbrev pub journey_figures : Journey → Figures
journey_figures j = record { leave = j.leave; arrival = j.arrival; rides = j.rides; walk = j.walk }

abbrev pub row_figures : Row → Figures
row_figures r = record { leave = r.leave; arrival = r.arrival; rides = r.rides; walk = r.walk }

-- whether the row a equals or beats b; when it is due
unfoldable pub cov : Row → Row → Bool
cov a b = covers (row_figures a) (row_figures b)

unfoldable pub due : Row → ℕ
due r = r.arrival

-- no ride: what a journey of one ride has as its last, and one of fewer than three as its middle
abbrev pub no_ride : Ride
no_ride = record { trip = 0; day = 0; from = 0; to = 0; departure = 0; arrival = 0; board_request = false; alight_request = false }

abbrev pub no_journey : Journey
no_journey = record {
  leave = 0;
  arrival = 0;
  rides = 0;
  walk = 0;
  origin = 0;
  target = 0;
  first = no_ride;
  middle = no_ride;
  last = no_ride;
}

-- a row of twelve numbers; the same as contracts name it, unfolded only where a proof asks for it
abbrev pub row : ℕ → ℕ → ℕ → ℕ → ℕ → ℕ → ℕ → ℕ → ℕ → ℕ → ℕ → ℕ → Row
row a b c d p q r s t u v w =
    record {
      leave = a;
      arrival = b;
      rides = c;
      walk = d;
      origin = p;
      target = q;
      board = r;
      alight = s;
      board2 = t;
      alight2 = u;
      middle_board = v;
      middle_alight = w;
    }

unfoldable pub row_of : ℕ → ℕ → ℕ → ℕ → ℕ → ℕ → ℕ → ℕ → ℕ → ℕ → ℕ → ℕ → Row
row_of a b c d p q r s t u v w = row a b c d p q r s t u v w

-- no row: what stands past the count
abbrev pub no_row : Row
no_row = row 0 0 0 0 0 0 0 0 0 0 0 0
