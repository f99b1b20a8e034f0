-- Rides and journeys as lists, over calls of any type: those of a timetable, or their places in an array. "A ride boards at a boardable
-- call and alights at a later alightable call of that trip and day." "For each boarding call in order, then each origin of its stop,
-- then each alighting call .. First the direct journeys by target; then, with `max_transfers` 1, each last ride by boarding call,
-- alighting call and target, if it joins."
use Rattle.std.specs.Prelude.{Bool, cond, List, [], ◌++◌, map, ℕ, eqb}
use Rattle.laws.specs.Lists.{concat_map, filterb, take_while}
use Rattle.laws.specs.Tails.{over_tails}

-- a ride, by the calls where it boards and alights
pub record Leg (C : Type 0) : Type 0 where
  pub b : C
  pub a : C

abbrev pub leg : {C : Type 0} → C → C → Leg C
leg b a = record { b = b; a = a }

-- a first ride, with the origin that one walks from
pub record First (C : Type 0) : Type 0 where
  pub o : ℕ
  pub ride : Leg C

abbrev pub first_ride : {C : Type 0} → ℕ → C → C → First C
first_ride o b a = record { o = o; ride = leg b a }

-- what is read of calls
pub record Network (C : Type 0) : Type 0 where
  -- the two are of one trip and day
  pub same : C → C → Bool
  pub board : C → Bool
  pub alight : C → Bool
  -- the origins that one can walk from to board there, and the targets of its stop, each in order
  pub origins : C → List ℕ
  pub targets : C → List ℕ
  -- the ride joins one that boards at the call
  pub joins : Leg C → C → Bool

-- ---- rides. s: the calls in order

module _ {C : Type 0} (N : Network C) where
  -- where a ride that boards at b alights; `later` is what stands after b
  abbrev pub alightings : C → List C → List C
  alightings b later = filterb N.alight (take_while (N.same b) later)

  -- by boarding call, then alighting call
  unfoldable pub rides : List C → List (Leg C)
  rides s = over_tails (λ b later. cond (N.board b) (map (leg b) (alightings b later)) []) s

  -- by boarding call, origin, alighting call
  unfoldable pub first_rides : List C → List (First C)
  first_rides s = over_tails (λ b later. cond (N.board b) (concat_map (λ o. map (first_ride o b) (alightings b later)) (N.origins b)) []) s

  -- the rides that r joins
  unfoldable pub joined_rides : List C → Leg C → List (Leg C)
  joined_rides s r = filterb (λ l. N.joins r l.b) (rides s)

-- ---- journeys. direct f k: what stands for the first ride f alone, to target k; change f l k: for f and then the ride l

module _ {C A : Type 0} (N : Network C) (direct : First C → ℕ → A) (change : First C → Leg C → ℕ → A) where
  unfoldable pub directs : First C → List A
  directs f = map (direct f) (N.targets f.ride.a)

  unfoldable pub changes : List C → First C → List A
  changes s f = concat_map (λ l. map (change f l) (N.targets l.a)) (joined_rides N s f.ride)

  -- by first ride: the direct journeys, then, with max_transfers 1, those with a change
  unfoldable pub journeys : ℕ → List C → List A
  journeys depth s = concat_map (λ f. directs f ++ cond (eqb depth 1) (changes s f) []) (first_rides N s)
