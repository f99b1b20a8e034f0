-- Four groups with full lists: 64 journeys each, by their arrivals.
use Rattle.std.specs.Prelude.{true, List, [], ◌∷◌, ℕ, pos, get_or}
use Rattle.laws.specs.Tables.{table}
use Rattle.profile.specs.declared.Journey.{Journey}
use Rattle.profile.specs.Journeys.{no_ride}
use Rattle.groups.specs.declared.Group.{Group}
use Rattle.display.specs.Parts.{window_to}
use Rattle.display.specs.Display.{display_of, part_of}
use Rattle.calls.specs.Sizes.{longest_horizon}
use Rattle.profile.specs.Sizes.{kept_room}

abbrev pub due_at : ℕ → Journey
due_at arrival = record {
  leave = 0;
  arrival = arrival;
  rides = 0;
  walk = 0;
  origin = 0;
  target = 0;
  first = no_ride;
  middle = no_ride;
  last = no_ride;
}

-- 64 journeys, due so
unfoldable pub list_due : List ℕ → List Journey
list_due arrivals = table kept_room (λ i. due_at (get_or arrivals i 0))

abbrev pub full_group : ℕ → List ℕ → Group
full_group n arrivals = record {
  number = n;
  searched = true;
  now = pos 0;
  horizon = longest_horizon;
  count = kept_room;
  journeys = list_due arrivals;
}

abbrev pub four_full : List ℕ → List ℕ → List ℕ → List ℕ → List Group
four_full a b c d = full_group 0 a ∷ full_group 1 b ∷ full_group 2 c ∷ full_group 3 d ∷ []

-- the window of the last of them, in a display of all four
abbrev pub last_window : List ℕ → List ℕ → List ℕ → List ℕ → ℕ
last_window a b c d = window_to (part_of (display_of (four_full a b c d)) 3)
