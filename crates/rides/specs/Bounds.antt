-- How early a last ride can bring one to a target: an array of 1024 numbers. The first 512 are one for each boarding call; the others one
-- for each 128 seconds of the day, for whatever departs then or later.
use Rattle.std.specs.Prelude.{◌≡◌, true, ℕ, ◌+◌, ◌/◌, ◌≤◌, ◌<◌, get_or}
use Rattle.std.specs.Coded.{le_prop}
use mathlib.Core.List.{List, Memᴰ}
use Rattle.laws.specs.Bits.{bits_of}
use Rattle.search_input.specs.Feed.{call_at, target_mask, target_walk_of, arrival_of}
use Rattle.rides.specs.Loops.{later_from}
use Rattle.search_input.specs.Layout.{call_room}

-- who alights at the time a is at no target of the mask before t
unfoldable pub AtTargets : List ℕ → ℕ → ℕ → ℕ → Type 0
AtTargets feed a mask t = (x : ℕ) → Memᴰ x (bits_of mask) → t ≤ arrival_of (target_walk_of feed x) a

-- who alights at place m is at no target before t
unfoldable pub AtCall : List ℕ → ℕ → ℕ → Type 0
AtCall feed m t = (call_at feed m).alight ≡ true → AtTargets feed (call_at feed m).arrival (target_mask feed (call_at feed m).stop) t

-- who boards at place j is at no target before t
unfoldable pub AtBoard : List ℕ → ℕ → ℕ → ℕ → Type 0
AtBoard feed n j t = (m : ℕ) → Memᴰ m (later_from (call_at feed) n j (j + 1)) → AtCall feed m t

-- where the number for departures at t and later stands
unfoldable pub bucket_of : ℕ → ℕ
bucket_of t = call_room + t / 128

-- what the loops of a search ask of the array b: the number at j bounds the rides that board at j, and that for t those numbers at j that
-- are boardable and depart at t or later
pub record Bounds (b feed : List ℕ) (n : ℕ) : Type 0 where
  pub board : (j : ℕ) → j < n → AtBoard feed n j (get_or b j 0)
  pub after : (t j : ℕ) → j < n → (call_at feed j).board ≡ true → t ≤ (call_at feed j).departure → get_or b (bucket_of t) 0 ≤ get_or b j 0

-- so that a struct can keep them
AtBoard-prop : (feed : List ℕ) (n j t : ℕ) → IsProp (AtBoard feed n j t)
unfolding AtBoard AtCall AtTargets
AtBoard-prop feed n j t = Prim.hlevel le_prop

pub Bounds-prop : (b feed : List ℕ) (n : ℕ) → IsProp (Bounds b feed n)
Bounds-prop b feed n = Prim.hlevel (le_prop, AtBoard-prop)

-- ---- on the way there

-- if one can board at j, the number for its own departure is no later than that at j
unfoldable pub InBucket : List ℕ → List ℕ → ℕ → Type 0
InBucket b feed j =
    (call_at feed j).board ≡ true
    → (bucket_of (call_at feed j).departure < 1024) × (get_or b (bucket_of (call_at feed j).departure) 0 ≤ get_or b j 0)

-- the calls from j on are put in
pub record Filled (b feed : List ℕ) (n j : ℕ) : Type 0 where
  pub board : (i : ℕ) → j ≤ i → i < n → AtBoard feed n i (get_or b i 0)
  pub bucket : (i : ℕ) → j ≤ i → i < n → InBucket b feed i

-- c is b with the number for the departure of j lowered
pub record Lowered (b c feed : List ℕ) (j : ℕ) : Type 0 where
  pub low : (i : ℕ) → i < call_room → get_or c i 0 ≡ get_or b i 0
  pub less : (p : ℕ) → get_or c p 0 ≤ get_or b p 0
  pub here : InBucket c feed j

-- c is b with each number for departures no later than any of b for later ones
pub record Suffix (b c : List ℕ) : Type 0 where
  pub low : (i : ℕ) → i < call_room → get_or c i 0 ≡ get_or b i 0
  pub least : (p q : ℕ) → call_room ≤ p → p ≤ q → q < 1024 → get_or c p 0 ≤ get_or b q 0
