-- How early one can be at a target from where a ride alights, by so many further rides: arrays of 512 numbers, one for each place, one
-- array for each number of changes left; and for each place a row of numbers, one for each block of calls where the next ride boards.
-- Made from the last ride back, so that each number is that of the rides that join. For request 10, whose loops pass over what leads on
-- from a place where a journey due at its number would be passed over.
use Rattle.std.specs.Prelude.{◌≡◌, true, ℕ, ◌+◌, ◌*◌, ◌/◌, ◌≤◌, ◌<◌, length, get_or, min}
use Rattle.std.specs.Coded.{le_prop, Coded-set, coded_ℕ}
use mathlib.Core.List.{List, [], ◌∷◌, Memᴰ}
use Rattle.laws.specs.Lists.{span}
use Rattle.ways.specs.Rides.{Leg}
use Rattle.ways.specs.Routes.{Way, onward}
use Rattle.search_input.specs.declared.FirstRide.{FirstRide}
use Rattle.search_input.specs.Feed.{call_at, same_run, target_walk_of, arrival_of}
use Rattle.rides.specs.Rows.{first_of, network_of}
use Rattle.rides.specs.Loops.{later_from}
use Rattle.rides.specs.Sheets.{sheet_of, joins_of}
use Rattle.search_input.specs.Layout.{call_room}

-- the place where the last of these rides alights
abbrev pub end_of : ℕ → List (Leg ℕ) → ℕ
end_of m [] = m
end_of m (l ∷ ls) = end_of l.a ls

-- when the way on from the place m is at its target
unfoldable pub due_at : List ℕ → ℕ → Way ℕ → ℕ
due_at feed m w = arrival_of (target_walk_of feed w.target) (call_at feed (end_of m w.rides)).arrival

-- no way on from a ride with so many changes left is at its target before the number at the place where the ride alights; of the ride
-- it is asked that one can alight there, and that it is of one trip and day
unfoldable pub NotBefore : List ℕ → List ℕ → ℕ → ℕ → List ℕ → Type 0
NotBefore feed changes n left at =
    (r : Leg ℕ) (w : Way ℕ) → r.a < n → (call_at feed r.a).alight ≡ true → same_run (call_at feed r.b) (call_at feed r.a) ≡ true
    → Memᴰ w (onward (network_of (sheet_of feed) (joins_of feed changes)) left (span 0 n) r) → get_or at r.a 0 ≤ due_at feed r.a w

-- t is no later than the number of any place where a ride that boards at c alights
unfoldable pub BoardAt : List ℕ → ℕ → List ℕ → ℕ → ℕ → Type 0
BoardAt feed n at c t = (d : ℕ) → Memᴰ d (later_from (call_at feed) n c (c + 1)) → (call_at feed d).alight ≡ true → t ≤ get_or at d 0

-- ---- what is joined where a ride alights

-- a ride that alights at place m, as a join reads it
abbrev pub alighted_at : List ℕ → ℕ → FirstRide
alighted_at feed m = first_of (sheet_of feed) m 0 m

-- t is no later than the number at c, if one can board there and the ride p joins it
unfoldable pub JoinAt : List ℕ → List ℕ → List ℕ → FirstRide → ℕ → ℕ → Type 0
JoinAt feed changes boards p c t = (call_at feed c).board ≡ true → joins_of feed changes p c ≡ true → t ≤ get_or boards c 0

-- t is no later than the number of any place from i up to n where a ride boards that p joins
pub record Least (feed changes boards : List ℕ) (p : FirstRide) (i n t : ℕ) : Type 0 where
  pub least : (c : ℕ) → i ≤ c → c < n → JoinAt feed changes boards p c t

-- the same of a ride that alights at m, over all of the first n
unfoldable pub JoinsAt : List ℕ → List ℕ → ℕ → List ℕ → ℕ → ℕ → Type 0
JoinsAt feed changes n boards m t = (call_at feed m).alight ≡ true → Least feed changes boards (alighted_at feed m) 0 n t

-- an array of so many elements, of which each from i up to n is such; `none` is what stands behind it
pub record EachOf {A : Type 0} (room : ℕ) (none : A) (P : ℕ → A → Type 0) (i n : ℕ) (l : List A) : Type 0 where
  pub long : length l ≡ room
  pub each : (k : ℕ) → i ≤ k → k < n → P k (get_or l k none)

-- of 512 numbers
abbrev pub Each : (ℕ → ℕ → Type 0) → ℕ → ℕ → List ℕ → Type 0
Each P i n l = EachOf call_room 0 P i n l

-- ---- the same by blocks of calls

abbrev pub block_width : ℕ
block_width = 32

abbrev pub block_count : ℕ
block_count = call_room / block_width

-- the place behind the block that begins at i, of n places
abbrev pub block_end : ℕ → ℕ → ℕ
block_end n i = min n (i + block_width)

-- t is no later than the number of any place in the block b, of n places, where a ride boards that p joins
unfoldable pub BlockAt : List ℕ → List ℕ → List ℕ → ℕ → FirstRide → ℕ → ℕ → Type 0
BlockAt feed changes boards n p b t = Least feed changes boards p (b * block_width) (block_end n (b * block_width)) t

-- of each block such a time
abbrev pub LeastByBlock : List ℕ → List ℕ → List ℕ → ℕ → FirstRide → List ℕ → Type 0
LeastByBlock feed changes boards n p row = EachOf block_count 0 (BlockAt feed changes boards n p) 0 block_count row

-- the same of a ride that alights at m
unfoldable pub RowAt : List ℕ → List ℕ → ℕ → List ℕ → ℕ → List ℕ → Type 0
RowAt feed changes n boards m row = (call_at feed m).alight ≡ true → LeastByBlock feed changes boards n (alighted_at feed m) row

-- ---- all of it

-- `on` has such an array with no change left, with one and with two; `boards` has for no ride that boards at a place, with no change or one
-- left after it, a number later than that in `on` where it alights; and `rows` has for each place a row of those of `boards`
pub record Onward (on boards : List (List ℕ)) (rows : List (List (List ℕ))) (feed changes : List ℕ) (n : ℕ) : Type 0 where
  pub on_time : (left : ℕ) → left ≤ 2 → NotBefore feed changes n left (get_or on left [])
  pub board : (left : ℕ) → left ≤ 1 → (c : ℕ) → c < n → BoardAt feed n (get_or on left []) c (get_or (get_or boards left []) c 0)
  pub row : (left : ℕ) → left ≤ 1 → (m : ℕ) → m < n
      → RowAt feed changes n (get_or boards left []) m (get_or (get_or rows left []) m [])

-- so that a struct can keep them
NotBefore-prop : (feed changes : List ℕ) (n left : ℕ) (at : List ℕ) → IsProp (NotBefore feed changes n left at)
unfolding NotBefore due_at
NotBefore-prop feed changes n left at = Prim.hlevel le_prop

BoardAt-prop : (feed : List ℕ) (n : ℕ) (at : List ℕ) (c t : ℕ) → IsProp (BoardAt feed n at c t)
unfolding BoardAt
BoardAt-prop feed n at c t = Prim.hlevel le_prop

RowAt-prop : (feed changes : List ℕ) (n : ℕ) (boards : List ℕ) (m : ℕ) (row : List ℕ) → IsProp (RowAt feed changes n boards m row)
unfolding RowAt BlockAt JoinAt
RowAt-prop feed changes n boards m row = Prim.hlevel (le_prop, Coded-set coded_ℕ)

pub Onward-prop : (on boards : List (List ℕ)) (rows : List (List (List ℕ))) (feed changes : List ℕ) (n : ℕ)
    → IsProp (Onward on boards rows feed changes n)
Onward-prop on boards rows feed changes n = Prim.hlevel (NotBefore-prop, BoardAt-prop, RowAt-prop)
