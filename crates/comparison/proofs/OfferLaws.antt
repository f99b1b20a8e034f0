-- The program's offers stand in the order stated here.
use Prim.Native.Nat.{ℕ, ◌*◌, ◌/◌, ◌≤◌, ◌<◌, min}
use native.Mathlib.Omega.{arith}
use mathlib.Core.Path.{◌≡◌, refl, sym, ap, subst, ◌∙◌}
use mathlib.Core.Logic.{◌⊎◌, inl, inr}
use mathlib.Core.Bool.{true, false, cond}
use mathlib.Core.List.Memᴰ
use mathlib.Core.List.{List, [], ◌∷◌, ◌++◌, map, map-append, map-map, append-nil, Memᴰ}
use lib.Dec.{eqb, leb, ltb}
use borrow.Author.Tests.{ltb-true, le-leb, leb-true, leb-false}
use Rattle.laws.specs.Lists.{concat_map, take_while}
use Rattle.laws.specs.Bits.{bits_from}
use Rattle.laws.proofs.Folds.{concat_map-mem}
use Rattle.laws.proofs.Bools.{test}
use Rattle.laws.proofs.Tails.{cond-mem}
use Rattle.laws.proofs.Flat.{map-agree}
use Rattle.laws.proofs.Places.{concat_map-cong, map-concat_map}
use Rattle.calls.specs.declared.Call.{Call}
use Rattle.profile.specs.declared.Journey.{Journey}
use Rattle.profile.proofs.FiguresLaws.{lexb-true}
use Rattle.ways.specs.Rides.{Leg, leg, First, first_ride, Network, alightings, rides, first_rides, joined_rides, directs, changes, journeys}
use Rattle.ways.specs.Routes.{Way, Route, here, ride_then, route_of, onward, pass, routes}
use Rattle.ways.proofs.RouteLaws.{up-to-one}
use Rattle.offers.specs.Order.{earlier, Rising}
use Rattle.offers.specs.Offers.{Timetable, ride_of, direct_of, change_of, three_of, network_of, ride_by, on_journey, journey_to}
use Rattle.offers.specs.Offers.{journey_by, routes_of, offers, sorted}
use Rattle.comparison.specs.Neighbours.{CallBefore}
use Rattle.comparison.specs.OfferOrder.{Offer, alone, changing, through, Sooner, RideSooner, Before, Ascending}
use Rattle.comparison.proofs.Pairs.{Pairs, pairs-append, pairs-cond, pairs-concat, pairs-tails, pairs-while, pairs-filter, pairs-map}
use Rattle.comparison.proofs.Pairs.{pairs-bits}

-- ---- two passes

none_passed : {C : Type 0} (N : Network C) (fs : List (First C)) → concat_map {A = Route C} (λ (f : First C). []) fs ≡ []
none_passed N [] = refl
none_passed N (f ∷ fs) = none_passed N fs

two-passes : {C : Type 0} (N : Network C) (depth : ℕ) (s : List C) → 2 ≤ depth → routes N depth s ≡ routes N 1 s ++ pass N (2 ∷ []) s
unfolding routes pass
two-passes N depth s h =
    rw (le-leb 0 depth (omega arith), le-leb 1 depth (omega arith), le-leb 2 depth h, none_passed N (first_rides N s), append-nil) refl

pub call-before : (b c : Call) → earlier b c ≡ true → CallBefore b c
call-before b c e = one (lexb-true b.trip c.trip _ e)
  where
    two : (b.day < c.day) ⊎ ((b.day ≡ c.day) × (ltb b.sequence c.sequence ≡ true))
        → (b.day < c.day) ⊎ ((b.day ≡ c.day) × (b.sequence < c.sequence))
    two (inl l) = inl l
    two (inr (q, l)) = inr (q, ltb-true _ _ l)

    one : (b.trip < c.trip) ⊎ ((b.trip ≡ c.trip) × (Rattle.profile.specs.Figures.lexb b.day c.day (ltb b.sequence c.sequence) ≡ true))
        → CallBefore b c
    one (inl l) = inl l
    one (inr (q, l)) = inr (q, two (lexb-true b.day c.day _ l))

-- ---- the offers with their calls

abbrev pub by_alone : First Call → ℕ → Offer
by_alone f k = alone f.ride.b f.o f.ride.a k

abbrev pub by_changing : First Call → Leg Call → ℕ → Offer
by_changing f l k = changing f.ride.b f.o f.ride.a l.b l.a k

abbrev pub by_through : First Call → Leg Call → Leg Call → ℕ → Offer
by_through f m l k = through f.ride.b f.o f.ride.a m.b m.a l.b l.a k

abbrev on_key : First Call → ℕ → Leg Call → Leg Call → List (Leg Call) → Offer
on_key f k p r [] = by_through f p r k
on_key f k p r (l ∷ ls) = on_key f k r l ls

abbrev key_to : First Call → ℕ → List (Leg Call) → Offer
key_to f k [] = by_alone f k
key_to f k (l ∷ []) = by_changing f l k
key_to f k (p ∷ r ∷ ls) = on_key f k p r ls

abbrev pub key_by : Route Call → Offer
key_by r = key_to r.first r.way.target r.way.rides

abbrev pub keys : Timetable → List Call → List Offer
keys t s = map key_by (routes (network_of t) t.max_transfers s)

abbrev pub to_j : Timetable → Offer → Journey
to_j t (alone b o a k) = direct_of t (ride_of b a) o k
to_j t (changing b o a c d k) = change_of t (ride_of b a) (ride_of c d) o k
to_j t (through b o a c d e g k) = three_of t (ride_of b a) (ride_of c d) (ride_of e g) o k

-- the same journeys
module _ (t : Timetable) (f : First Call) (k : ℕ) where
  on_same : (p r : Leg Call) (ls : List (Leg Call)) → to_j t (on_key f k p r ls) ≡ on_journey t (ride_by f.ride) f.o k p r ls
  on_same p r [] = refl
  on_same p r (l ∷ ls) = on_same r l ls

  to_same : (ls : List (Leg Call)) → to_j t (key_to f k ls) ≡ journey_to t (ride_by f.ride) f.o k ls
  to_same [] = refl
  to_same (l ∷ []) = refl
  to_same (p ∷ r ∷ ls) = on_same p r ls

pub same-offers : (t : Timetable) → map (to_j t) (keys t (sorted t)) ≡ offers t
unfolding offers
same-offers t =
    map-map (to_j t) key_by (routes_of t) ∙ map-agree (λ r. to_j t (key_by r)) (journey_by t) (routes_of t)
    (λ r m. to_same t r.first r.way.target r.way.rides)

-- ---- rides in order

abbrev pub RideBefore : Leg Call → Leg Call → Type 0
RideBefore r q = CallBefore r.b q.b ⊎ ((r.b ≡ q.b) × CallBefore r.a q.a)

abbrev pub FirstBefore : First Call → First Call → Type 0
FirstBefore f g =
    CallBefore f.ride.b g.ride.b ⊎ ((f.ride.b ≡ g.ride.b) × ((f.o < g.o) ⊎ ((f.o ≡ g.o) × CallBefore f.ride.a g.ride.a)))

module _ (N : Network Call) (bits : (b : Call) → Pairs ◌<◌ (N.origins b)) where
  run-pairs : (b : Call) (later : List Call) → Pairs CallBefore later → Pairs CallBefore (alightings N b later)
  run-pairs b later p = pairs-filter CallBefore N.alight (take_while (N.same b) later) (pairs-while CallBefore (N.same b) later p)

  pub rides-pairs : (s : List Call) → Pairs CallBefore s → Pairs RideBefore (rides N s)
  unfolding rides
  rides-pairs s p =
      pairs-tails RideBefore CallBefore (λ b later. cond (N.board b) (map (leg b) (alightings N b later)) []) s p
      (λ b later q. pairs-cond RideBefore (N.board b) _
      (pairs-map RideBefore CallBefore (leg b) (alightings N b later) (run-pairs b later q) (λ a a' l. inr (refl, l))))
      (λ b c later later' l r q m n. inl (subst (λ (x : Call). CallBefore x q.b) (boards b later r m)
      (subst (CallBefore b) (boards c later' q n) l)))
    where
      boards : (b : Call) (later : List Call) (r : Leg Call) → Memᴰ r (cond (N.board b) (map (leg b) (alightings N b later)) []) → b ≡ r.b
      boards b later r m = let (a, i, e) = Memᴰ.of_map (leg b) (alightings N b later) (cond-mem (N.board b) _ m).1 in λ n. (e n).b

  -- from one origin, and from each
  from : Call → List Call → ℕ → List (First Call)
  from b later o = map (first_ride o b) (alightings N b later)

  from_is : (b : Call) (later : List Call) (o : ℕ) (f : First Call) → Memᴰ f (from b later o) → (a : Call) × (first_ride o b a ≡ f)
  unfolding from
  from_is b later o f m = let (a, i, e) = Memᴰ.of_map (first_ride o b) (alightings N b later) m in (a, e)

  board-pairs : (b : Call) (later : List Call) → Pairs CallBefore later → Pairs FirstBefore (concat_map (from b later) (N.origins b))
  unfolding from
  board-pairs b later q =
      pairs-concat FirstBefore ◌<◌ (from b later) (N.origins b) (bits b)
      (λ o. pairs-map FirstBefore CallBefore (first_ride o b) (alightings N b later) (run-pairs b later q)
      (λ a a' l. inr (refl, inr (refl, l))))
      (λ o p l f g m n. let (a, e) = from_is b later o f m in let (c, d) = from_is b later p g n in
      subst (λ (x : First Call). FirstBefore x g) e (subst (FirstBefore (first_ride o b a)) d (inr (refl, inl l))))

  pub firsts-pairs : (s : List Call) → Pairs CallBefore s → Pairs FirstBefore (first_rides N s)
  unfolding first_rides from
  firsts-pairs s p =
      pairs-tails FirstBefore CallBefore (λ b later. cond (N.board b) (concat_map (from b later) (N.origins b)) []) s p
      (λ b later q. pairs-cond FirstBefore (N.board b) _ (board-pairs b later q))
      (λ b c later later' l f g m n. let (o, a, e) = boards b later f m in let (p, d, k) = boards c later' g n in
      subst (λ (x : First Call). FirstBefore x g) e (subst (FirstBefore (first_ride o b a)) k (inl l)))
    where
      boards : (b : Call) (later : List Call) (f : First Call) → Memᴰ f (cond (N.board b) (concat_map (from b later) (N.origins b)) [])
          → (o : ℕ) × (a : Call) × (first_ride o b a ≡ f)
      boards b later f m =
          let (o, i, n) = concat_map-mem (from b later) (N.origins b) (cond-mem (N.board b) _ m).1 in
          let (a, e) = from_is b later o f n in
          (o, a, e)

-- ---- offers in order

-- the offer is of the first ride
abbrev Of : First Call → Offer → Type 0
Of f x = ((k : ℕ) × (by_alone f k ≡ x)) ⊎ ((l : Leg Call) × (k : ℕ) × (by_changing f l k ≡ x))

before-by : (x y e f : Offer) → e ≡ x → f ≡ y → Before e f → Before x y
before-by x y e f p q w = subst (λ (z : Offer). Before z y) p (subst (λ (z : Offer). Before e z) q w)

pub sooner : (f g : First Call) (Rest : Type 0) → FirstBefore f g → Sooner f.ride.b f.o f.ride.a g.ride.b g.o g.ride.a Rest
sooner f g Rest (inl l) = inl l
sooner f g Rest (inr (e, inl l)) = inr (e, inl l)
sooner f g Rest (inr (e, inr (q, l))) = inr (e, inr (q, inl l))

by_first : (f g : First Call) → FirstBefore f g → (x y : Offer) → Of f x → Of g y → Before x y
by_first f g w x y (inl (k, e)) (inl (k', e')) = before-by x y (by_alone f k) (by_alone g k') e e' (sooner f g _ w)
by_first f g w x y (inl (k, e)) (inr (l', k', e')) = before-by x y (by_alone f k) (by_changing g l' k') e e' (sooner f g _ w)
by_first f g w x y (inr (l, k, e)) (inl (k', e')) = before-by x y (by_changing f l k) (by_alone g k') e e' (sooner f g _ w)
by_first f g w x y (inr (l, k, e)) (inr (l', k', e')) = before-by x y (by_changing f l k) (by_changing g l' k') e e' (sooner f g _ w)

module _ (t : Timetable) (s : List Call) (p : Pairs CallBefore s) where
  pub bits : (b : Call) → Pairs ◌<◌ ((network_of t).origins b)
  unfolding network_of
  bits b = pairs-filter ◌<◌ (λ o. leb (t.origin_walk o * 60) b.departure) (bits_from (min t.origins 4) 0 (t.members b.stop))
      (pairs-bits (min t.origins 4) 0 (t.members b.stop))

  pub targets : (a : Call) → Pairs ◌<◌ ((network_of t).targets a)
  unfolding network_of
  targets a = pairs-bits (min t.targets 4) 0 (t.members a.stop / 16)

  module _ (depth : ℕ) (f : First Call) where
    abbrev alones : List Offer
    alones = directs (network_of t) by_alone by_changing f

    abbrev changings : List Offer
    changings = changes (network_of t) by_alone by_changing s f

    alone_of : (x : Offer) → Memᴰ x alones → (k : ℕ) × (by_alone f k ≡ x)
    unfolding directs
    alone_of x m = let (k, i, e) = Memᴰ.of_map (by_alone f) ((network_of t).targets f.ride.a) m in (k, e)

    last_of : (l : Leg Call) (x : Offer) → Memᴰ x (map (by_changing f l) ((network_of t).targets l.a)) → (k : ℕ) × (by_changing f l k ≡ x)
    last_of l x m = let (k, i, e) = Memᴰ.of_map (by_changing f l) ((network_of t).targets l.a) m in (k, e)

    changing-of : (x : Offer) → Memᴰ x changings → (l : Leg Call) × (k : ℕ) × (by_changing f l k ≡ x)
    unfolding changes
    changing-of x m =
        let (l, i, n) = concat_map-mem (λ l. map (by_changing f l) ((network_of t).targets l.a)) (joined_rides (network_of t) s f.ride) m in
        let (k, e) = last_of l x n in
        (l, k, e)

    pub alone-pairs : Pairs Before alones
    unfolding directs
    alone-pairs = pairs-map Before ◌<◌ (by_alone f) ((network_of t).targets f.ride.a) (targets f.ride.a)
        (λ k k' l. inr (refl, inr (refl, inr (refl, l))))

    changing-pairs : Pairs Before changings
    unfolding changes joined_rides
    changing-pairs =
        pairs-concat Before RideBefore (λ l. map (by_changing f l) ((network_of t).targets l.a)) (joined_rides (network_of t) s f.ride)
        (pairs-filter RideBefore (λ l. (network_of t).joins f.ride l.b) (rides (network_of t) s) (rides-pairs (network_of t) bits s p))
        (λ l. pairs-map Before ◌<◌ (by_changing f l) ((network_of t).targets l.a) (targets l.a)
        (λ k k' h. inr (refl, inr (refl, inr (refl, inr (refl, inr (refl, h)))))))
        (λ l l' w x y m n. let (k, e) = last_of l x m in let (k', e') = last_of l' y n in
        before-by x y (by_changing f l k) (by_changing f l' k') e e' (inr (refl, inr (refl, inr (refl, later l l' w)))))
      where
        later : (l l' : Leg Call) {Rest : Type 0} → RideBefore l l'
            → CallBefore l.b l'.b ⊎ ((l.b ≡ l'.b) × (CallBefore l.a l'.a ⊎ ((l.a ≡ l'.a) × Rest)))
        later l l' (inl h) = inl h
        later l l' (inr (q, h)) = inr (q, inl h)

    after-pairs : Pairs Before (alones ++ cond (eqb depth 1) changings [])
    after-pairs =
        pairs-append Before alones (cond (eqb depth 1) changings []) alone-pairs (pairs-cond Before (eqb depth 1) changings changing-pairs)
        (λ x y m n. let (k, e) = alone_of x m in let (l, k', e') = changing-of y (cond-mem (eqb depth 1) changings n).1 in
        before-by x y (by_alone f k) (by_changing f l k') e e' (inr (refl, inr (refl, inr (refl, tt)))))

    after-of : (x : Offer) → Memᴰ x (alones ++ cond (eqb depth 1) changings []) → Of f x
    after-of x m = go (Memᴰ.append_cases alones m)
      where
        go : Memᴰ x alones ⊎ Memᴰ x (cond (eqb depth 1) changings []) → Of f x
        go (inl n) = inl (alone_of x n)
        go (inr n) = inr (changing-of x (cond-mem (eqb depth 1) changings n).1)

  -- by one ride or two
  few-pairs : (depth : ℕ) → Pairs Before (journeys (network_of t) by_alone by_changing depth s)
  unfolding journeys
  few-pairs depth =
      pairs-concat Before FirstBefore (λ f. alones depth f ++ cond (eqb depth 1) (changings depth f) []) (first_rides (network_of t) s)
      (firsts-pairs (network_of t) bits s p) (after-pairs depth)
      (λ f g w x y m n. by_first f g w x y (after-of depth f x m) (after-of depth g y n))

  few-of : (depth : ℕ) (x : Offer) → Memᴰ x (journeys (network_of t) by_alone by_changing depth s) → (f : First Call) × Of f x
  unfolding journeys
  few-of depth x m =
      let (f, i, n) = concat_map-mem (λ f. alones depth f ++ cond (eqb depth 1) (changings depth f) []) (first_rides (network_of t) s) m in
      (f, after-of depth f x n)

  -- by three
  lasts : First Call → Leg Call → Leg Call → List Offer
  lasts f m l = map (by_through f m l) ((network_of t).targets l.a)

  middles : First Call → Leg Call → List Offer
  middles f m = concat_map (lasts f m) (joined_rides (network_of t) s m)

  throughs : First Call → List Offer
  throughs f = concat_map (middles f) (joined_rides (network_of t) s f.ride)

  joined-pairs : (r : Leg Call) → Pairs RideBefore (joined_rides (network_of t) s r)
  unfolding joined_rides
  joined-pairs r = pairs-filter RideBefore (λ l. (network_of t).joins r l.b) (rides (network_of t) s) (rides-pairs (network_of t) bits s p)

  last-is : (f : First Call) (m l : Leg Call) (x : Offer) → Memᴰ x (lasts f m l) → (k : ℕ) × (by_through f m l k ≡ x)
  unfolding lasts
  last-is f m l x i = let (k, j, e) = Memᴰ.of_map (by_through f m l) ((network_of t).targets l.a) i in (k, e)

  middle-is : (f : First Call) (m : Leg Call) (x : Offer) → Memᴰ x (middles f m) → (l : Leg Call) × (k : ℕ) × (by_through f m l k ≡ x)
  unfolding middles
  middle-is f m x i =
      let (l, j, n) = concat_map-mem (lasts f m) (joined_rides (network_of t) s m) i in
      let (k, e) = last-is f m l x n in
      (l, k, e)

  through-is : (f : First Call) (x : Offer) → Memᴰ x (throughs f) → (m : Leg Call) × (l : Leg Call) × (k : ℕ) × (by_through f m l k ≡ x)
  unfolding throughs
  through-is f x i =
      let (m, j, n) = concat_map-mem (middles f) (joined_rides (network_of t) s f.ride) i in
      let (l, k, e) = middle-is f m x n in
      (m, l, k, e)

  pub ride-sooner : (l l' : Leg Call) {Rest : Type 0} → RideBefore l l' → RideSooner l.b l.a l'.b l'.a Rest
  ride-sooner l l' (inl h) = inl h
  ride-sooner l l' (inr (q, h)) = inr (q, inl h)

  last-pairs : (f : First Call) (m l : Leg Call) → Pairs Before (lasts f m l)
  unfolding lasts
  last-pairs f m l =
      pairs-map Before ◌<◌ (by_through f m l) ((network_of t).targets l.a) (targets l.a)
      (λ k k' h. inr (refl, inr (refl, inr (refl, inr (refl, inr (refl, inr (refl, inr (refl, h))))))))

  middle-pairs : (f : First Call) (m : Leg Call) → Pairs Before (middles f m)
  unfolding middles
  middle-pairs f m =
      pairs-concat Before RideBefore (lasts f m) (joined_rides (network_of t) s m) (joined-pairs m) (last-pairs f m)
      (λ l l' w x y i j. let (k, e) = last-is f m l x i in let (k', e') = last-is f m l' y j in
      before-by x y (by_through f m l k) (by_through f m l' k') e e'
      (inr (refl, inr (refl, inr (refl, inr (refl, inr (refl, ride-sooner l l' w)))))))

  through-pairs : (f : First Call) → Pairs Before (throughs f)
  unfolding throughs
  through-pairs f =
      pairs-concat Before RideBefore (middles f) (joined_rides (network_of t) s f.ride) (joined-pairs f.ride) (middle-pairs f)
      (λ m m' w x y i j. let (l, k, e) = middle-is f m x i in let (l', k', e') = middle-is f m' y j in
      before-by x y (by_through f m l k) (by_through f m' l' k') e e' (inr (refl, inr (refl, inr (refl, ride-sooner m m' w)))))

  three-pairs : Pairs Before (concat_map throughs (first_rides (network_of t) s))
  three-pairs =
      pairs-concat Before FirstBefore throughs (first_rides (network_of t) s) (firsts-pairs (network_of t) bits s p) through-pairs
      (λ f g w x y i j. let (m, l, k, e) = through-is f x i in let (m', l', k', e') = through-is g y j in
      before-by x y (by_through f m l k) (by_through g m' l' k') e e' (sooner f g _ w))

  three-is : (x : Offer) → Memᴰ x (concat_map throughs (first_rides (network_of t) s))
      → (f : First Call) × (m : Leg Call) × (l : Leg Call) × (k : ℕ) × (by_through f m l k ≡ x)
  three-is x i =
      let (f, j, n) = concat_map-mem throughs (first_rides (network_of t) s) i in
      let (m, l, k, e) = through-is f x n in
      (f, m, l, k, e)

  few-first : (x y : Offer) (f g : First Call) (m l : Leg Call) (k : ℕ) → Of f x → by_through g m l k ≡ y → Before x y
  few-first x y f g m l k (inl (k', e)) q = before-by x y (by_alone f k') (by_through g m l k) e q tt
  few-first x y f g m l k (inr (l', k', e)) q = before-by x y (by_changing f l' k') (by_through g m l k) e q tt

  -- these are the keys
  one_on : (f : First Call) (m : Leg Call) → map (λ (v : Way Call). key_by (route_of f (ride_then m v))) (onward (network_of t) 1 s m)
      ≡ middles f m
  unfolding onward middles lasts
  one_on f m =
      let N = network_of t in
      map-concat_map (λ (v : Way Call). key_by (route_of f (ride_then m v))) (λ l. map (ride_then l) (map here (N.targets l.a)))
      (joined_rides N s m)
      ∙ concat_map-cong (λ l. map (λ (v : Way Call). key_by (route_of f (ride_then m v))) (map (ride_then l) (map here (N.targets l.a))))
      (lasts f m)
      (λ l. map-map (λ (v : Way Call). key_by (route_of f (ride_then m v))) (ride_then l) (map here (N.targets l.a))
      ∙ map-map (λ (v : Way Call). key_by (route_of f (ride_then m (ride_then l v)))) here (N.targets l.a)) (joined_rides N s m)

  two-on : (f : First Call) → map (λ (v : Way Call). key_by (route_of f v)) (onward (network_of t) 2 s f.ride) ≡ throughs f
  unfolding onward throughs
  two-on f =
      let N = network_of t in
      map-concat_map (λ (v : Way Call). key_by (route_of f v)) (λ m. map (ride_then m) (onward N 1 s m)) (joined_rides N s f.ride)
      ∙ concat_map-cong (λ m. map (λ (v : Way Call). key_by (route_of f v)) (map (ride_then m) (onward N 1 s m))) (middles f)
      (λ m. map-map (λ (v : Way Call). key_by (route_of f v)) (ride_then m) (onward N 1 s m) ∙ one_on f m) (joined_rides N s f.ride)

  three-keys : map key_by (pass (network_of t) (2 ∷ []) s) ≡ concat_map throughs (first_rides (network_of t) s)
  unfolding pass
  three-keys =
      let N = network_of t in
      map-concat_map key_by (λ f. concat_map (λ n. map (route_of f) (onward N n s f.ride)) (2 ∷ [])) (first_rides N s)
      ∙ concat_map-cong (λ f. map key_by (concat_map (λ n. map (route_of f) (onward N n s f.ride)) (2 ∷ []))) throughs
      (λ f. ap (map key_by) (append-nil (map (route_of f) (onward N 2 s f.ride))) ∙ map-map key_by (route_of f) (onward N 2 s f.ride)
      ∙ two-on f) (first_rides N s)

  pub few-keys : (depth : ℕ) → depth ≤ 1 → map key_by (routes (network_of t) depth s) ≡ journeys (network_of t) by_alone by_changing depth s
  few-keys depth h = up-to-one (network_of t) depth s by_alone by_changing key_by h (λ f k. refl) (λ f l k. refl)

  all-keys : (depth : ℕ) → 2 ≤ depth → map key_by (routes (network_of t) depth s)
      ≡ journeys (network_of t) by_alone by_changing 1 s ++ concat_map throughs (first_rides (network_of t) s)
  all-keys depth h =
      ap (map key_by) (two-passes (network_of t) depth s h)
      ∙ map-append key_by (routes (network_of t) 1 s) (pass (network_of t) (2 ∷ []) s) ∙ (λ i. few-keys 1 (omega arith) i ++ three-keys i)

  pub pairs-offers : Pairs Before (keys t s)
  pairs-offers = go (test (leb t.max_transfers 1))
    where
      go : (leb t.max_transfers 1 ≡ true) ⊎ (leb t.max_transfers 1 ≡ false) → Pairs Before (keys t s)
      go (inl h) = subst (Pairs Before) (sym (few-keys t.max_transfers (leb-true t.max_transfers 1 h))) (few-pairs t.max_transfers)
      go (inr h) =
          subst (Pairs Before) (sym (all-keys t.max_transfers (omega (arith, leb-false t.max_transfers 1 h))))
          (pairs-append Before (journeys (network_of t) by_alone by_changing 1 s) (concat_map throughs (first_rides (network_of t) s))
          (few-pairs 1) three-pairs
          (λ x y i j. let (f, o) = few-of 1 x i in let (g, m, l, k, e) = three-is y j in few-first x y f g m l k o e))

pub ascends : (es : List Offer) → Pairs Before es → Ascending es
ascends [] p = tt
ascends (e ∷ es) p = (p.0, ascends es p.1)

pub rises : (s : List Call) → Rising s → Pairs CallBefore s
rises [] w = tt
rises (b ∷ s) w = (λ c m. call-before b c (w.0 c m), rises s w.1)
