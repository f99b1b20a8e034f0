-- Journeys by depth, for request 10: "Search onward with the number of changes left falling by one at each ride. A middle ride needs a
-- boardable and a later alightable call of one trip and day, and joins on both sides. Offer all three-ride journeys after all the
-- others, by first, middle and last ride in call order, origin and target placed as for two rides." Over calls of any type, as
-- `journeys` is. `offers` and the rows of crate `rides` are made of `routes`; with max_transfers 0 and 1 these are `journeys` (`UpToOne`).
use Rattle.std.specs.Prelude.{◌≡◌, ℕ, zero, suc, ◌≤◌, leb, length}
use mathlib.Core.List.{List, [], ◌∷◌, ◌++◌, map, Memᴰ}
use Rattle.laws.specs.Lists.{concat_map, filterb}
use Rattle.ways.specs.Rides.{Leg, First, Network, first_rides, joined_rides, journeys}
use Rattle.ways.specs.Images.{leg_by, first_by, Images}

-- what leads on from a ride: further rides, then a target
pub record Way (C : Type 0) : Type 0 where
  pub rides : List (Leg C)
  pub target : ℕ

-- a journey by its calls
pub record Route (C : Type 0) : Type 0 where
  pub first : First C
  pub way : Way C

module _ {C : Type 0} where
  abbrev pub here : ℕ → Way C
  here k = record { rides = []; target = k }

  abbrev pub ride_then : Leg C → Way C → Way C
  ride_then l w = record { rides = l ∷ w.rides; target = w.target }

  abbrev pub route_of : First C → Way C → Route C
  route_of f w = record { first = f; way = w }

-- the numbers of changes that max_transfers allows
abbrev pub allowed : ℕ → List ℕ → List ℕ
allowed depth ns = filterb (λ n. leb n depth) ns

-- ---- in order. s: the calls in order

module _ {C : Type 0} (N : Network C) where
  -- every way on from the ride r, with so many changes left
  unfoldable pub onward : ℕ → List C → Leg C → List (Way C)
  onward zero s r = map here (N.targets r.a)
  onward (suc left) s r = concat_map (λ l. map (ride_then l) (onward left s l)) (joined_rides N s r)

  -- by first ride, then by each of these numbers of changes
  unfoldable pub pass : List ℕ → List C → List (Route C)
  pass ns s = concat_map (λ f. concat_map (λ n. map (route_of f) (onward n s f.ride)) ns) (first_rides N s)

  -- with at most one change, and after all of these with two
  unfoldable pub routes : ℕ → List C → List (Route C)
  routes depth s = pass (allowed depth (0 ∷ 1 ∷ [])) s ++ pass (allowed depth (2 ∷ [])) s

-- ---- what is claimed

module _ {C : Type 0} (N : Network C) (depth : ℕ) (s : List C) where
  -- with max_transfers 0 and 1 these are the journeys as they were, whatever is made of a route with two further rides
  module _ {A : Type 0} (direct : First C → ℕ → A) (change : First C → Leg C → ℕ → A) (make : Route C → A) where
    abbrev pub UpToOne : Type 0
    UpToOne = depth ≤ 1 → ((f : First C) (k : ℕ) → make (route_of f (here k)) ≡ direct f k)
        → ((f : First C) (l : Leg C) (k : ℕ) → make (route_of f (ride_then l (here k))) ≡ change f l k)
        → map make (routes N depth s) ≡ journeys N direct change depth s

  -- three rides stand after all the others, and only with max_transfers 2 or more
  pub record ThreeLast : Type 0 where
    pub others : List (Route C)
    pub threes : List (Route C)
    pub all : routes N depth s ≡ others ++ threes
    pub fewer : (r : Route C) → Memᴰ r others → length r.way.rides ≤ 1
    pub three : (r : Route C) → Memᴰ r threes → (length r.way.rides ≡ 2) × (2 ≤ depth)

-- a route by the images of its calls
abbrev pub way_by : {C D : Type 0} → (C → D) → Way C → Way D
way_by h w = record { rides = map (leg_by h) w.rides; target = w.target }

abbrev pub route_by : {C D : Type 0} → (C → D) → Route C → Route D
route_by h r = record { first = first_by h r.first; way = way_by h r.way }

module _ {C D : Type 0} (N : Network C) (M : Network D) (h : C → D) (depth : ℕ) (s : List C) where
  -- the routes of images are the images of the routes: those of places are those of the calls there
  abbrev pub RoutesOfImages : Type 0
  RoutesOfImages = Images N M h 1 s → routes M depth (map h s) ≡ map (route_by h) (routes N depth s)
