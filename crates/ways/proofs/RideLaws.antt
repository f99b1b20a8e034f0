-- Members of the lists of rides and of journeys; and what is listed for each ride, as loops over the calls list it.
use mathlib.Core.Path.{◌≡◌, sym, subst, ap, ◌∙◌}
use mathlib.Core.Logic.{◌⊎◌, inl, inr}
use mathlib.Core.Bool.{true, cond}
use mathlib.Core.List.Memᴰ
use mathlib.Core.List.{List, [], ◌++◌, map, Memᴰ}
use Prim.Native.Nat.{ℕ}
use lib.Dec.{eqb}
use borrow.Author.Tests.{eq-eqb, eqb-true}
use Rattle.laws.specs.Lists.{concat_map, take_while}
use Rattle.laws.specs.Tails.{over_tails, Tail}
use Rattle.laws.proofs.Lists.{filterb-mem, mem-filterb}
use Rattle.laws.proofs.Folds.{concat_map-mem, mem-concat_map}
use Rattle.laws.proofs.Tails.{cond-mem, mem-cond, tail-mem, tail-rest, take_while-mem, over_tails-mem, mem-over_tails}
use Rattle.laws.proofs.Places.{concat_map-cong, concat_map-cond, concat_map-map}
use Rattle.ways.specs.Rides.{Leg, leg, First, first_ride, Network, alightings, rides, first_rides, joined_rides, directs, changes, journeys}
use Rattle.laws.proofs.Flat.{tails-agree, concat_map-filterb, flat-cond, flat-tails, flat-flat}

-- ---- who is in the lists

module _ {C : Type 0} (N : Network C) where
  -- the ride, as the lists come to it: it boards at a call of s and alights at a later one of its run
  pub record Listed (s : List C) (r : Leg C) : Type 0 where
    pub later : List C
    pub tail : Tail r.b later s
    pub run : Memᴰ r.a (take_while (N.same r.b) later)
    pub board : N.board r.b ≡ true
    pub alight : N.alight r.a ≡ true

  listed : (s : List C) (b : C) (later : List C) (a : C) → Tail b later s → N.board b ≡ true → Memᴰ a (alightings N b later)
      → Listed s (leg b a)
  listed s b later a t p m =
      let (n, q) = filterb-mem N.alight (take_while (N.same b) later) m in
      record { later = later; tail = t; run = n; board = p; alight = q }

  pub rides-mem : (s : List C) (r : Leg C) → Memᴰ r (rides N s) → Listed s r
  unfolding rides
  rides-mem s r m =
      let (b, later, t, m₁) = over_tails-mem (λ b later. cond (N.board b) (map (leg b) (alightings N b later)) []) s m in
      let (p, m₂) = cond-mem (N.board b) (map (leg b) (alightings N b later)) m₁ in
      let (a, i, e) = Memᴰ.of_map (leg b) (alightings N b later) m₂ in
      rw (← e) (listed s b later a t p i)

  pub mem-rides : (s : List C) (r : Leg C) → Listed s r → Memᴰ r (rides N s)
  unfolding rides
  mem-rides s r w =
      mem-over_tails (λ b later. cond (N.board b) (map (leg b) (alightings N b later)) []) r.b w.later s w.tail
      (mem-cond (N.board r.b) (map (leg r.b) (alightings N r.b w.later)) w.board
      (Memᴰ.map (leg r.b) (mem-filterb N.alight w.run w.alight)))

  pub firsts-mem : (s : List C) (f : First C) → Memᴰ f (first_rides N s) → Listed s f.ride × Memᴰ f.o (N.origins f.ride.b)
  unfolding first_rides
  firsts-mem s f m =
      let (b, later, t, m₁) =
      over_tails-mem (λ b later. cond (N.board b) (concat_map (λ o. map (first_ride o b) (alightings N b later)) (N.origins b)) []) s m in
      let (p, m₂) = cond-mem (N.board b) (concat_map (λ o. map (first_ride o b) (alightings N b later)) (N.origins b)) m₁ in
      let (o, k, m₃) = concat_map-mem (λ o. map (first_ride o b) (alightings N b later)) (N.origins b) m₂ in
      let (a, i, e) = Memᴰ.of_map (first_ride o b) (alightings N b later) m₃ in
      rw (← e) (listed s b later a t p i, k)

  pub mem-firsts : (s : List C) (f : First C) → Listed s f.ride → Memᴰ f.o (N.origins f.ride.b) → Memᴰ f (first_rides N s)
  unfolding first_rides
  mem-firsts s f w k =
      let b = f.ride.b in
      mem-over_tails (λ b later. cond (N.board b) (concat_map (λ o. map (first_ride o b) (alightings N b later)) (N.origins b)) []) b
      w.later s w.tail
      (mem-cond (N.board b) (concat_map (λ o. map (first_ride o b) (alightings N b w.later)) (N.origins b)) w.board
      (mem-concat_map (λ o. map (first_ride o b) (alightings N b w.later)) k
      (Memᴰ.map (first_ride f.o b) (mem-filterb N.alight w.run w.alight))))

  pub joined-mem : (s : List C) (r l : Leg C) → Memᴰ l (joined_rides N s r) → Listed s l × (N.joins r l.b ≡ true)
  unfolding joined_rides
  joined-mem s r l m = let (n, e) = filterb-mem (λ l. N.joins r l.b) (rides N s) m in (rides-mem s l n, e)

  pub mem-joined : (s : List C) (r l : Leg C) → Listed s l → N.joins r l.b ≡ true → Memᴰ l (joined_rides N s r)
  unfolding joined_rides
  mem-joined s r l w e = mem-filterb (λ l. N.joins r l.b) (mem-rides s l w) e

  -- its calls are of s
  pub listed_in : (s : List C) (r : Leg C) → Listed s r → Memᴰ r.b s × Memᴰ r.a s
  listed_in s r w =
      (tail-mem r.b w.later s w.tail, tail-rest r.b w.later s w.tail (take_while-mem (N.same r.b) w.later w.run).0)

-- ---- who is in the list of journeys

module _ {C A : Type 0} (N : Network C) (direct : First C → ℕ → A) (change : First C → Leg C → ℕ → A) (depth : ℕ) (s : List C) where
  pub record Alone (x : A) : Type 0 where
    pub f : First C
    pub k : ℕ
    pub ride : Listed N s f.ride
    pub origin : Memᴰ f.o (N.origins f.ride.b)
    pub target : Memᴰ k (N.targets f.ride.a)
    pub is : x ≡ direct f k

  pub record Changing (x : A) : Type 0 where
    pub f : First C
    pub l : Leg C
    pub k : ℕ
    pub may : depth ≡ 1
    pub ride : Listed N s f.ride
    pub origin : Memᴰ f.o (N.origins f.ride.b)
    pub last : Listed N s l
    pub joined : N.joins f.ride l.b ≡ true
    pub target : Memᴰ k (N.targets l.a)
    pub is : x ≡ change f l k

  pub journeys-mem : (x : A) → Memᴰ x (journeys N direct change depth s) → Alone x ⊎ Changing x
  unfolding journeys directs changes
  journeys-mem x m =
      let (f, i, n) =
      concat_map-mem (λ f. directs N direct change f ++ cond (eqb depth 1) (changes N direct change s f) []) (first_rides N s) m in
      go f (firsts-mem N s f i) (Memᴰ.append_cases (directs N direct change f) n)
    where
      go : (f : First C) → Listed N s f.ride × Memᴰ f.o (N.origins f.ride.b)
          → Memᴰ x (directs N direct change f) ⊎ Memᴰ x (cond (eqb depth 1) (changes N direct change s f) []) → Alone x ⊎ Changing x
      go f (w, o) (inl m) =
          let (k, i, e) = Memᴰ.of_map (direct f) (N.targets f.ride.a) m in
          inl (record { f = f; k = k; ride = w; origin = o; target = i; is = sym e })
      go f (w, o) (inr m) =
          let (d, m₁) = cond-mem (eqb depth 1) (changes N direct change s f) m in
          let (l, j, m₂) = concat_map-mem (λ l. map (change f l) (N.targets l.a)) (joined_rides N s f.ride) m₁ in
          let (k, i, e) = Memᴰ.of_map (change f l) (N.targets l.a) m₂ in
          let (v, q) = joined-mem N s f.ride l j in
          inr (record { f = f; l = l; k = k; may = eqb-true depth 1 d; ride = w; origin = o; last = v; joined = q; target = i; is = sym e })

  pub mem-alone : (x : A) → Alone x → Memᴰ x (journeys N direct change depth s)
  unfolding journeys directs
  mem-alone x w =
      mem-concat_map (λ f. directs N direct change f ++ cond (eqb depth 1) (changes N direct change s f) [])
      (mem-firsts N s w.f w.ride w.origin)
      (Memᴰ.append_left (cond (eqb depth 1) (changes N direct change s w.f) [])
      (subst (λ (y : A). Memᴰ y (directs N direct change w.f)) (sym w.is) (Memᴰ.map (direct w.f) w.target)))

  pub mem-changing : (x : A) → Changing x → Memᴰ x (journeys N direct change depth s)
  unfolding journeys directs changes
  mem-changing x w =
      mem-concat_map (λ f. directs N direct change f ++ cond (eqb depth 1) (changes N direct change s f) [])
      (mem-firsts N s w.f w.ride w.origin)
      (Memᴰ.append_right (directs N direct change w.f)
      (mem-cond (eqb depth 1) (changes N direct change s w.f) (eq-eqb depth 1 w.may)
      (mem-concat_map (λ l. map (change w.f l) (N.targets l.a)) (mem-joined N s w.f.ride w.l w.last w.joined)
      (subst (λ (y : A). Memᴰ y (map (change w.f w.l) (N.targets w.l.a))) (sym w.is) (Memᴰ.map (change w.f w.l) w.target)))))

-- ---- what is listed for each ride, as loops over the calls list it

module _ {C A : Type 0} (N : Network C) where
  -- g of each alighting call of the ride's run
  abbrev pub over_run : (C → List A) → C → List C → List A
  over_run g b later = concat_map (λ a. cond (N.alight a) (g a) []) (take_while (N.same b) later)

  pub over-firsts : (g : First C → List A) (s : List C)
      → concat_map g (first_rides N s)
      ≡ over_tails (λ b later. cond (N.board b) (concat_map (λ o. over_run (λ a. g (first_ride o b a)) b later) (N.origins b)) []) s
  unfolding first_rides
  over-firsts g s =
      flat-tails g (λ b later. cond (N.board b) (concat_map (λ o. map (first_ride o b) (alightings N b later)) (N.origins b)) []) s
      ∙ tails-agree _ (λ b later. cond (N.board b) (concat_map (λ o. over_run (λ a. g (first_ride o b a)) b later) (N.origins b)) []) s
      (λ b later t. each b later)
    where
      run : (o : ℕ) (b : C) (later : List C)
          → concat_map g (map (first_ride o b) (alightings N b later)) ≡ over_run (λ a. g (first_ride o b a)) b later
      run o b later =
          concat_map-map (first_ride o b) g (alightings N b later)
          ∙ concat_map-filterb N.alight (λ a. g (first_ride o b a)) (take_while (N.same b) later)

      each : (b : C) (later : List C)
          → concat_map g (cond (N.board b) (concat_map (λ o. map (first_ride o b) (alightings N b later)) (N.origins b)) [])
          ≡ cond (N.board b) (concat_map (λ o. over_run (λ a. g (first_ride o b a)) b later) (N.origins b)) []
      each b later =
          flat-cond (N.board b) g (concat_map (λ o. map (first_ride o b) (alightings N b later)) (N.origins b))
          ∙ ap (λ (r : List A). cond (N.board b) r [])
          (flat-flat g (λ o. map (first_ride o b) (alightings N b later)) (N.origins b)
          ∙ concat_map-cong (λ o. concat_map g (map (first_ride o b) (alightings N b later)))
          (λ o. over_run (λ a. g (first_ride o b a)) b later) (λ o. run o b later) (N.origins b))

  -- a join is tested once for each boarding call
  pub over-joined : (g : Leg C → List A) (s : List C) (r : Leg C)
      → concat_map g (joined_rides N s r)
      ≡ over_tails (λ b later. cond (N.board b) (cond (N.joins r b) (over_run (λ a. g (leg b a)) b later) []) []) s
  unfolding joined_rides rides
  over-joined g s r =
      concat_map-filterb (λ l. N.joins r l.b) g (rides N s)
      ∙ flat-tails joined (λ b later. cond (N.board b) (map (leg b) (alightings N b later)) []) s
      ∙ tails-agree _ (λ b later. cond (N.board b) (cond (N.joins r b) (over_run (λ a. g (leg b a)) b later) []) []) s
      (λ b later t. each b later)
    where
      joined : Leg C → List A
      joined l = cond (N.joins r l.b) (g l) []

      run : (b : C) (later : List C)
          → concat_map joined (map (leg b) (alightings N b later)) ≡ cond (N.joins r b) (over_run (λ a. g (leg b a)) b later) []
      run b later =
          concat_map-map (leg b) joined (alightings N b later) ∙ concat_map-cond (N.joins r b) (λ a. g (leg b a)) (alightings N b later)
          ∙ ap (λ (q : List A). cond (N.joins r b) q []) (concat_map-filterb N.alight (λ a. g (leg b a)) (take_while (N.same b) later))

      each : (b : C) (later : List C)
          → concat_map joined (cond (N.board b) (map (leg b) (alightings N b later)) [])
          ≡ cond (N.board b) (cond (N.joins r b) (over_run (λ a. g (leg b a)) b later) []) []
      each b later =
          flat-cond (N.board b) joined (map (leg b) (alightings N b later)) ∙ ap (λ (q : List A). cond (N.board b) q []) (run b later)
