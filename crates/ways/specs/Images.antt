-- When the calls of one list stand for those of another: then its rides and journeys stand for the other's.
use Rattle.std.specs.Prelude.{◌≡◌, ℕ}
use mathlib.Core.List.{List, map, Memᴰ}
use Rattle.ways.specs.Rides.{Leg, leg, First, Network, rides, first_rides, journeys}

-- the ride and the first ride by the images of their calls
abbrev pub leg_by : {C D : Type 0} → (C → D) → Leg C → Leg D
leg_by h r = leg (h r.b) (h r.a)

abbrev pub first_by : {C D : Type 0} → (C → D) → First C → First D
first_by h f = record { o = f.o; ride = leg_by h f.ride }

-- of each call of s, N reads what M reads of its image; joins are asked for where there are changes
pub record Images {C D : Type 0} (N : Network C) (M : Network D) (h : C → D) (depth : ℕ) (s : List C) : Type 0 where
  pub same : (x y : C) → Memᴰ x s → Memᴰ y s → M.same (h x) (h y) ≡ N.same x y
  pub board : (x : C) → Memᴰ x s → M.board (h x) ≡ N.board x
  pub alight : (x : C) → Memᴰ x s → M.alight (h x) ≡ N.alight x
  pub origins : (x : C) → Memᴰ x s → M.origins (h x) ≡ N.origins x
  pub targets : (x : C) → Memᴰ x s → M.targets (h x) ≡ N.targets x
  pub joins : depth ≡ 1 → (x y z : C) → Memᴰ x s → Memᴰ y s → Memᴰ z s → M.joins (leg (h x) (h y)) (h z) ≡ N.joins (leg x y) z

-- the calls of the ride are of s
abbrev pub RideIn : {C : Type 0} → List C → Leg C → Type 0
RideIn s r = Memᴰ r.b s × Memᴰ r.a s

-- a direct journey, and one with a change, stands for that of the images
pub record Stand {C D A B : Type 0} (N : Network C) (h : C → D) (depth : ℕ) (s : List C) (φ : A → B)
    (direct : First C → ℕ → A) (change : First C → Leg C → ℕ → A) (direct' : First D → ℕ → B)
    (change' : First D → Leg D → ℕ → B) : Type 0 where
  pub alone : (f : First C) (k : ℕ) → RideIn s f.ride → Memᴰ f.o (N.origins f.ride.b) → Memᴰ k (N.targets f.ride.a)
      → φ (direct f k) ≡ direct' (first_by h f) k
  pub changing : depth ≡ 1 → (f : First C) (l : Leg C) (k : ℕ) → RideIn s f.ride → Memᴰ f.o (N.origins f.ride.b) → RideIn s l
      → Memᴰ k (N.targets l.a) → φ (change f l k) ≡ change' (first_by h f) (leg_by h l) k

-- ---- what is claimed

module _ {C D : Type 0} (N : Network C) (M : Network D) (h : C → D) (depth : ℕ) (s : List C) where
  -- the rides and the first rides of the images are the images of the rides and the first rides
  abbrev pub RidesOfImages : Type 0
  RidesOfImages = Images N M h depth s → rides M (map h s) ≡ map (leg_by h) (rides N s)

  abbrev pub FirstRidesOfImages : Type 0
  FirstRidesOfImages = Images N M h depth s → first_rides M (map h s) ≡ map (first_by h) (first_rides N s)

  -- if each journey stands for that of the images, so do all of them, in order
  module _ {A B : Type 0} (φ : A → B) (direct : First C → ℕ → A) (change : First C → Leg C → ℕ → A) (direct' : First D → ℕ → B)
      (change' : First D → Leg D → ℕ → B) where
    abbrev pub JourneysOfImages : Type 0
    JourneysOfImages = Images N M h depth s → Stand N h depth s φ direct change direct' change'
        → map φ (journeys N direct change depth s) ≡ journeys M direct' change' depth (map h s)
