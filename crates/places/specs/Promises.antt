-- What is proved of places: of every list of at most 128 stops, sound or not; and of those with distinct ids that this determines them.
use Rattle.std.specs.Prelude.{◌≡◌, true, false, List, [], ◌∷◌, ℕ, ◌≤◌, ◌<◌, length, get_or, take}
use Rattle.stops.specs.declared.Stop.{Stop}
use Rattle.stops.specs.Stops.{id_of}
use Rattle.stops.specs.Sound.{stop_at}
use Rattle.places.specs.Places.{has_key, same_place, id_less, places_of}
use Rattle.stops.specs.Sizes.{stop_room, no_stop}

abbrev pub place_at : List Stop → ℕ → ℕ
place_at ss k = get_or (places_of ss) k no_stop

-- what holds of the place r of the stop k, where p gives each stop its place
pub record PlaceRight (ss : List Stop) (p : ℕ → ℕ) (k r : ℕ) : Type 0 where
  -- it is a stop that has a key
  pub known : r < length ss
  pub keyed : has_key ss r ≡ true
  -- a representative is its own representative
  pub own : p r ≡ r
  -- the stop is one place with its representative, so two stops of one place match the same one
  pub matches : same_place ss k r ≡ true
  -- which was placed before it, or is itself: its id is not after the stop's
  pub before : id_less ss k r ≡ false
  -- and no representative that matches has a smaller id
  pub least : (q : ℕ) → q < length ss → has_key ss q ≡ true → p q ≡ q → same_place ss k q ≡ true → id_less ss q r ≡ false

abbrev pub PlacesRight : List Stop → (ℕ → ℕ) → Type 0
PlacesRight ss p = (k : ℕ) → k < length ss → has_key ss k ≡ true → PlaceRight ss p k (p k)

abbrev pub EveryPlace : Type 0
EveryPlace = (ss : List Stop) → length ss ≤ stop_room → PlacesRight ss (place_at ss)

-- no two stops have one id
abbrev pub Distinct : List Stop → Type 0
Distinct ss = (j k : ℕ) → j < length ss → k < length ss → id_of (stop_at ss j) ≡ id_of (stop_at ss k) → j ≡ k

-- then there is only one way to give each its place
abbrev pub OnlyPlaces : Type 0
OnlyPlaces = (ss : List Stop) → length ss ≤ stop_room → Distinct ss → (p : ℕ → ℕ) → PlacesRight ss p
    → (k : ℕ) → k < length ss → has_key ss k ≡ true → p k ≡ place_at ss k

-- a stop without a key has no place
abbrev pub NoKeyNoPlace : Type 0
NoKeyNoPlace = (ss : List Stop) → length ss ≤ stop_room → (k : ℕ) → k < length ss → has_key ss k ≡ false → place_at ss k ≡ no_stop

-- places are not merged through a chain: of three stops in the order of ids, where the first two match and the last two, but not the
-- first and the last, the last is a place of its own
abbrev pub ChainNotMerged : Type 0
ChainNotMerged =
    (a b c : Stop) → let ss = a ∷ b ∷ c ∷ [] in
    ((k : ℕ) → k < 3 → has_key ss k ≡ true) → id_less ss 1 0 ≡ false → id_less ss 2 1 ≡ false
    → same_place ss 1 0 ≡ true → same_place ss 2 1 ≡ true → same_place ss 2 0 ≡ false → take 3 (places_of ss) ≡ 0 ∷ 0 ∷ 2 ∷ []
