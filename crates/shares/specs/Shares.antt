-- "A display holds 64 journeys for up to four groups .. Group i gets the smaller of 16 and its list, and what is left of 64 goes to
-- groups in number order as far as their lists need" (request 08).
use Rattle.std.specs.Prelude.{List, [], ◌∷◌, ℕ, ◌+◌, ◌-◌, min}

-- so many journeys a display shows
abbrev pub shown_room : ℕ
shown_room = 64

-- the smaller of 16 and a list of n
abbrev pub at_first_of : ℕ → ℕ
at_first_of n = min 16 n

-- what the list needs beyond that
abbrev pub needs : ℕ → ℕ
needs n = n - at_first_of n

abbrev pub total : List ℕ → ℕ
total [] = 0
total (n ∷ ns) = n + total ns

-- what all get at first
abbrev pub first_total : List ℕ → ℕ
first_total [] = 0
first_total (n ∷ ns) = at_first_of n + first_total ns

-- what is left goes to the groups in number order, as far as their lists need
unfoldable pub dealt : ℕ → List ℕ → List ℕ
dealt left [] = []
dealt left (n ∷ ns) = (at_first_of n + min left (needs n)) ∷ dealt (left - needs n) ns

-- the shares of lists that are so long, by group number
unfoldable pub shares_of : List ℕ → List ℕ
shares_of ns = dealt (shown_room - first_total ns) ns
