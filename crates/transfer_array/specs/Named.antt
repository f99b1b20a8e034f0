-- The changes that a search reads: between the stops that its calls name.
use Rattle.std.specs.Prelude.{◌≡◌, Bool, true, false, List, ℕ, ◌+◌, ◌*◌, ◌<◌, ◌≤◌, length, get_or}
use Rattle.stops.specs.Sizes.{stop_room}
use Rattle.calls.specs.Sizes.{call_room}
use Rattle.search_input.specs.Layout.{call_width}

-- the stop of the call at place i of a feed
abbrev pub stop_in : List ℕ → ℕ → ℕ
stop_in f i = get_or f (i * call_width + 2) 0

-- each stop that one of the first n calls names is marked
abbrev pub Marks : List Bool → List ℕ → ℕ → Type 0
Marks m f n = (i : ℕ) → i < n → i < call_room → stop_in f i < stop_room → get_or m (stop_in f i) false ≡ true

-- every mark is below r
abbrev pub Reaches : List Bool → ℕ → Type 0
Reaches m r = (k : ℕ) → get_or m k false ≡ true → k < r

-- with a change, g has at from * 128 + to the entry of each two stops that the first n calls name
abbrev pub HoldsChanges : List ℕ → List ℕ → ℕ → ℕ → (ℕ → ℕ → ℕ) → Type 0
HoldsChanges g f n depth entry =
    1 ≤ depth → (i j : ℕ) → i < n → i < call_room → j < n → j < call_room → stop_in f i < stop_room → stop_in f j < stop_room
    → get_or g (stop_in f i * stop_room + stop_in f j) 0 ≡ entry (stop_in f i) (stop_in f j)

-- if it is marked, the n places from a have f of 0, 1, ..; those before them what they had in `first`
pub record Marked (mark : Bool) (f : ℕ → ℕ) (a n : ℕ) (first last : List ℕ) : Type 0 where
  pub long : length last ≡ length first
  pub here : mark ≡ true → (k : ℕ) → k < n → get_or last (a + k) 0 ≡ f k
  pub low : (x : ℕ) → x < a → get_or last x 0 ≡ get_or first x 0
