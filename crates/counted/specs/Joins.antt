-- The events of a search, over calls of any type, in the order of `journeys` of crate `ways`: "A join pairs an origin's first ride with
-- any ride as the last, targets aside, whether or not they join."
use Rattle.std.specs.Prelude.{◌≡◌, cond, List, [], ◌∷◌, ◌++◌, map, ℕ, ◌*◌, eqb, length}
use Rattle.laws.specs.Lists.{concat_map}
use Rattle.ways.specs.Rides.{Leg, First, Network, rides, first_rides, directs, journeys}
use Rattle.ways.specs.Images.{leg_by, first_by, Images, Stand}
use Rattle.counted.specs.Events.{Event, tested, offered, joins_of, offers_of, joins_in}

-- a first ride, and any ride as the last
pub record Join (C : Type 0) : Type 0 where
  pub first : First C
  pub last : Leg C

abbrev pub join_of : {C : Type 0} → First C → Leg C → Join C
join_of f l = record { first = f; last = l }

module _ {C A : Type 0} (N : Network C) (direct : First C → ℕ → A) (change : First C → Leg C → ℕ → A) where
  -- the join of f and l is tested, once; if they join, their journeys are offered by target
  unfoldable pub join_events : First C → Leg C → List (Event (Join C) A)
  join_events f l = tested (join_of f l) ∷ map offered (cond (N.joins f.ride l.b) (map (change f l) (N.targets l.a)) [])

  -- the joins of f, by last ride. s: the calls in order
  unfoldable pub change_events : List C → First C → List (Event (Join C) A)
  change_events s f = concat_map (join_events f) (rides N s)

  -- by first ride: the direct journeys, then, with max_transfers 1, its joins
  unfoldable pub events : ℕ → List C → List (Event (Join C) A)
  events depth s = concat_map (λ f. map offered (directs N direct change f) ++ cond (eqb depth 1) (change_events s f) []) (first_rides N s)

-- every first ride with every ride, in order
abbrev pub pairs : {C : Type 0} → List (First C) → List (Leg C) → List (Join C)
pairs fs ls = concat_map (λ f. map (join_of f) ls) fs

-- an event by the images of its calls, φ of what is offered
abbrev pub join_by : {C D : Type 0} → (C → D) → Join C → Join D
join_by h j = join_of (first_by h j.first) (leg_by h j.last)

abbrev pub event_by : {C D A B : Type 0} → (C → D) → (A → B) → Event (Join C) A → Event (Join D) B
event_by h φ (tested j) = tested (join_by h j)
event_by h φ (offered a) = offered (φ a)

-- ---- what is claimed

module _ {C A : Type 0} (N : Network C) (direct : First C → ℕ → A) (change : First C → Leg C → ℕ → A) (depth : ℕ) (s : List C) where
  -- the offers among the events are the journeys, in order
  abbrev pub OffersOfEvents : Type 0
  OffersOfEvents = offers_of (events N direct change depth s) ≡ journeys N direct change depth s

  -- the joins are every first ride with every ride, its own trip and itself included; none with max_transfers 0
  abbrev pub JoinsOfEvents : Type 0
  JoinsOfEvents = joins_of (events N direct change depth s) ≡ cond (eqb depth 1) (pairs (first_rides N s) (rides N s)) []

  -- so many are they; and those of one first ride are as many as there are rides
  abbrev pub CountOfEvents : Type 0
  CountOfEvents = joins_in (events N direct change depth s) ≡ cond (eqb depth 1) (length (first_rides N s) * length (rides N s)) 0

  abbrev pub CountOfChanges : Type 0
  CountOfChanges = (f : First C) → joins_in (change_events N direct change s f) ≡ length (rides N s)

module _ {C D A B : Type 0} (N : Network C) (M : Network D) (h : C → D) (depth : ℕ) (s : List C) (φ : A → B) (direct : First C → ℕ → A)
    (change : First C → Leg C → ℕ → A)
    (direct' : First D → ℕ → B) (change' : First D → Leg D → ℕ → B) where
  -- if each journey stands for that of the images, the events stand for those of the images
  abbrev pub EventsOfImages : Type 0
  EventsOfImages = Images N M h depth s → Stand N h depth s φ direct change direct' change'
      → map (event_by h φ) (events N direct change depth s) ≡ events M direct' change' depth (map h s)
