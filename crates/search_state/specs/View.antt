-- An array of numbers as the state of a search: slots of a row each, the last of them spare, then count, horizon, limits and refused.
use Rattle.std.specs.Prelude.{◌≡◌, Bool, true, false, cond, ◌↔◌, List, ℕ, ◌+◌, ◌*◌, min, eqb, get_or, length, take}
use Rattle.profile.specs.Found.{Row}
use Rattle.laws.specs.Tables.{table}
use Rattle.profile.specs.Kept.{SearchState, going, refused}
use Rattle.profile.specs.Journeys.{row}
use Rattle.search_state.specs.Layout.{slots, width, count_place, horizon_place, limits_place, refused_place}
use Rattle.profile.specs.Sizes.{kept_room}

-- the numbers of slot i
abbrev pub slot : List ℕ → ℕ → Row
slot l i =
    row (get_or l (i * width) 0) (get_or l (i * width + 1) 0) (get_or l (i * width + 2) 0) (get_or l (i * width + 3) 0)
    (get_or l (i * width + 4) 0) (get_or l (i * width + 5) 0)
    (get_or l (i * width + 6) 0) (get_or l (i * width + 7) 0) (get_or l (i * width + 8) 0) (get_or l (i * width + 9) 0)
    (get_or l (i * width + 10) 0) (get_or l (i * width + 11) 0)

-- the same, unfolded only where a proof asks for it
unfoldable pub row_at : List ℕ → ℕ → Row
row_at l i = slot l i

-- every slot
unfoldable pub rows : List ℕ → List Row
rows l = table slots (row_at l)

-- how many are kept: the number stored, read as 64 if it is more
unfoldable pub count_of : List ℕ → ℕ
count_of l = min (get_or l count_place 0) kept_room

unfoldable pub horizon_of : List ℕ → ℕ
horizon_of l = get_or l horizon_place 0

-- the mark: the number stored, read as 255 if it is more
unfoldable pub limits_of : List ℕ → ℕ
limits_of l = min (get_or l limits_place 0) 255

unfoldable pub kept_of : List ℕ → List Row
kept_of l = take (count_of l) (rows l)

-- refused, unless the number stored is 0
unfoldable pub open_of : List ℕ → Bool
open_of l = eqb (get_or l refused_place 0) 0

-- the array as a state
unfoldable pub view : List ℕ → SearchState Row
view l = cond (open_of l) (going (kept_of l) (horizon_of l) (limits_of l)) refused

-- what is read of the array is what its state has
abbrev pub ViewParts : Type 0
ViewParts = (l : List ℕ) (ks : List Row) (h g : ℕ) → view l ≡ going ks h g
    → (open_of l ≡ true) × (count_of l ≡ length ks) × (kept_of l ≡ ks) × (horizon_of l ≡ h) × (limits_of l ≡ g)

abbrev pub ViewRefused : Type 0
ViewRefused = (l : List ℕ) → (view l ≡ refused) ↔ (open_of l ≡ false)
