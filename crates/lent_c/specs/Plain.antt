-- Journeys of plain numbers, and the numbers of an answer.
use Rattle.std.specs.Prelude.{List, [], ◌∷◌, ℕ, ℤ, get_or, take, None, Option, Some}
use Rattle.laws.specs.Tables.{table}
use Rattle.profile.specs.declared.Journey.{Journey}
use Rattle.profile.specs.Journeys.{no_ride}
use Rattle.best.specs.Best.{best_of_of, first_leaving}
use Rattle.profile.specs.Sizes.{kept_room}

-- the number of no journey
abbrev pub no_number : ℕ
no_number = 65535

-- a journey of four figures; it bears its number as its origin, at which best does not look
abbrev pub journey_with : ℕ → ℕ → ℕ → ℕ → ℕ → Journey
journey_with n l a r w = record {
  leave = l;
  arrival = a;
  rides = r;
  walk = w;
  origin = n;
  target = 0;
  first = no_ride;
  middle = no_ride;
  last = no_ride;
}

-- the 64 journeys of columns of leaves, arrivals, rides and walks
unfoldable pub journeys_of : List ℕ → List ℕ → List ℕ → List ℕ → List Journey
journeys_of leaves arrivals rides walks = table kept_room
    (λ i. journey_with i (get_or leaves i 0) (get_or arrivals i 0) (get_or rides i 0) (get_or walks i 0))

-- number, leave, arrival, rides and walk; for none 65535 and zeros
unfoldable pub answer_of : Option Journey → List ℕ
answer_of (Some j) = j.origin ∷ j.leave ∷ j.arrival ∷ j.rides ∷ j.walk ∷ []
answer_of None = no_number ∷ 0 ∷ 0 ∷ 0 ∷ 0 ∷ []

-- the answer over the first n of them, up to the horizon h, at the second s
unfoldable pub best_numbers : List ℕ → List ℕ → List ℕ → List ℕ → ℕ → ℕ → ℤ → List ℕ
best_numbers leaves arrivals rides walks n h s = answer_of (best_of_of (take n (journeys_of leaves arrivals rides walks)) h s)

-- the same by the first that leaves in time
unfoldable pub first_numbers : List ℕ → List ℕ → List ℕ → List ℕ → ℕ → ℕ → ℤ → List ℕ
first_numbers leaves arrivals rides walks n h s = answer_of (first_leaving (take n (journeys_of leaves arrivals rides walks)) h s)
