-- The program's joins and offers stand in the order stated here, and a limit stops them as stated.
use Prim.Native.Nat.{ℕ, zero, suc, ◌<◌}
use native.Mathlib.Omega.{arith}
use mathlib.Core.Path.{◌≡◌, refl, sym, ap, subst, ◌∙◌}
use mathlib.Core.Logic.{◌⊎◌, inl, inr}
use mathlib.Core.Bool.{Bool, cond}
use mathlib.Core.List.Memᴰ
use mathlib.Core.List.{List, [], ◌∷◌, ◌++◌, map, map-id, Memᴰ}
use lib.Dec.{eqb}
use Rattle.laws.proofs.Folds.{concat_map-mem}
use Rattle.laws.proofs.Tails.{cond-mem}
use Rattle.calls.specs.declared.Call.{Call}
use Rattle.profile.specs.declared.Journey.{Journey}
use Rattle.ways.specs.Rides.{Leg, First, rides, first_rides, directs}
use Rattle.offers.specs.Offers.{Timetable, network_of, direct_by, change_by, sorted}
use Rattle.counted.specs.Events as by
use Rattle.counted.specs.Events.{tested, offered, joins_of, offers_of, up_to}
use Rattle.counted.specs.Joins.{Join, join_of, join_events, change_events, events, event_by}
use Rattle.counted.proofs.JoinLaws.{events-of-images}
use Rattle.limited.specs.Limited.{events_of, offers_within, joins_within, finished_within}
use Rattle.comparison.specs.Neighbours.{CallBefore}
use Rattle.comparison.specs.OfferOrder.{Offer, Before}
use Rattle.comparison.specs.Events.{Event, join, offer, Precedes, InTurn, joins_in, offers_in, Stops, finished, stopped}
use Rattle.comparison.proofs.Pairs.{Pairs, pairs-append, pairs-cond, pairs-concat, pairs-map}
use Rattle.comparison.proofs.OfferLaws.{by_alone, by_changing, to_j, RideBefore, FirstBefore, rides-pairs, firsts-pairs, sooner, bits}
use Rattle.comparison.proofs.OfferLaws.{targets, ride-sooner, alone-pairs}

-- what the program comes to, an offer being named by its calls; and the same as stated here
abbrev pub Keyed : Type 0
Keyed = by.Event (Join Call) Offer

abbrev pub stated : Keyed → Event
stated (tested j) = join j.first.ride.b j.first.o j.first.ride.a j.last.b j.last.a
stated (offered x) = offer x

abbrev pub Turn : Keyed → Keyed → Type 0
Turn x y = Precedes (stated x) (stated y)

-- ---- in order

-- what a first ride comes to with a last ride, and in all
data OfRide (f : First Call) (l : Leg Call) : Keyed → Type 0 where
  pair : OfRide f l (tested (join_of f l))
  change : (k : ℕ) → OfRide f l (offered (by_changing f l k))

data OfFirst (f : First Call) : Keyed → Type 0 where
  direct : (k : ℕ) → OfFirst f (offered (by_alone f k))
  on : (l : Leg Call) (x : Keyed) → OfRide f l x → OfFirst f x

on-first : (f g : First Call) (l : Leg Call) (w : FirstBefore f g) (k : ℕ) (x : Keyed) → OfRide g l x → Turn (offered (by_alone f k)) x
on-first f g l w k _ pair = sooner f g _ w
on-first f g l w k _ (change k') = sooner f g _ w

first_on : (f g : First Call) (l : Leg Call) (w : FirstBefore f g) (k : ℕ) (x : Keyed) → OfRide f l x → Turn x (offered (by_alone g k))
first_on f g l w k _ pair = sooner f g _ w
first_on f g l w k _ (change k') = sooner f g _ w

on-on : (f g : First Call) (l l' : Leg Call) (w : FirstBefore f g) (x y : Keyed) → OfRide f l x → OfRide g l' y → Turn x y
on-on f g l l' w _ _ pair pair = sooner f g _ w
on-on f g l l' w _ _ pair (change k) = sooner f g _ w
on-on f g l l' w _ _ (change k) pair = sooner f g _ w
on-on f g l l' w _ _ (change k) (change k') = sooner f g _ w

by_first : (f g : First Call) → FirstBefore f g → (x y : Keyed) → OfFirst f x → OfFirst g y → Turn x y
by_first f g w _ _ (direct k) (direct k') = sooner f g _ w
by_first f g w _ _ (direct k) (on l y v) = on-first f g l w k y v
by_first f g w _ _ (on l x u) (direct k) = first_on f g l w k x u
by_first f g w _ _ (on l x u) (on l' y v) = on-on f g l l' w x y u v

module _ (t : Timetable) (s : List Call) (p : Pairs CallBefore s) where
  by-ride : (f : First Call) (l l' : Leg Call) → RideBefore l l' → (x y : Keyed) → OfRide f l x → OfRide f l' y → Turn x y
  by-ride f l l' w _ _ pair pair = inr (refl, inr (refl, inr (refl, ride-sooner t s p l l' w)))
  by-ride f l l' w _ _ pair (change k) = inr (refl, inr (refl, inr (refl, ride-sooner t s p l l' w)))
  by-ride f l l' w _ _ (change k) pair = inr (refl, inr (refl, inr (refl, ride-sooner t s p l l' w)))
  by-ride f l l' w _ _ (change k) (change k') = inr (refl, inr (refl, inr (refl, ride-sooner t s p l l' w)))

  after-direct : (f : First Call) (k : ℕ) (l : Leg Call) (x : Keyed) → OfRide f l x → Turn (offered (by_alone f k)) x
  after-direct f k l _ pair = inr (refl, inr (refl, inr (refl, tt)))
  after-direct f k l _ (change k') = inr (refl, inr (refl, inr (refl, tt)))

  module _ (depth : ℕ) (f : First Call) where
    abbrev joins_by : Leg Call → List Keyed
    joins_by l = join_events (network_of t) by_alone by_changing f l

    abbrev changes_by : List Keyed
    changes_by = change_events (network_of t) by_alone by_changing s f

    abbrev directs_by : List Keyed
    directs_by = map offered (directs (network_of t) by_alone by_changing f)

    of-last : (l : Leg Call) (b : Bool) (x : Keyed)
        → Memᴰ x (map offered (cond b (map (by_changing f l) ((network_of t).targets l.a)) []))
        → (k : ℕ) × (offered (by_changing f l k) ≡ x)
    of-last l b x m =
        let (y, i, e) = Memᴰ.of_map offered (cond b (map (by_changing f l) ((network_of t).targets l.a)) []) m in
        let (k, j, q) = Memᴰ.of_map (by_changing f l) ((network_of t).targets l.a) (cond-mem b _ i).1 in
        (k, ap {B = Keyed} offered q ∙ e)

    of-ride : (l : Leg Call) (x : Keyed) → Memᴰ x (joins_by l) → OfRide f l x
    unfolding join_events
    of-ride l x m = go (Memᴰ.cases_cons m)
      where
        go : (x ≡ tested (join_of f l)) ⊎ Memᴰ x (map offered
            (cond ((network_of t).joins f.ride l.b) (map (by_changing f l) ((network_of t).targets l.a)) [])) → OfRide f l x
        go (inl e) = subst (OfRide f l) (sym e) pair
        go (inr n) = let (k, e) = of-last l ((network_of t).joins f.ride l.b) x n in subst (OfRide f l) e (change k)

    of-change : (x : Keyed) → Memᴰ x changes_by → (l : Leg Call) × OfRide f l x
    unfolding change_events
    of-change x m = let (l, i, n) = concat_map-mem joins_by (rides (network_of t) s) m in (l, of-ride l x n)

    of-direct : (x : Keyed) → Memᴰ x directs_by → (k : ℕ) × (offered (by_alone f k) ≡ x)
    unfolding directs
    of-direct x m =
        let (y, i, e) = Memᴰ.of_map offered (map (by_alone f) ((network_of t).targets f.ride.a)) m in
        let (k, j, q) = Memᴰ.of_map (by_alone f) ((network_of t).targets f.ride.a) i in
        (k, ap {B = Keyed} offered q ∙ e)

    ride-turns : (l : Leg Call) → Pairs Turn (joins_by l)
    unfolding join_events
    ride-turns l = (
      λ x m. let (k, e) = of-last l ((network_of t).joins f.ride l.b) x m in
          subst (Turn (tested (join_of f l))) e (inr (refl, inr (refl, inr (refl, inr (refl, inr (refl, tt)))))),
      pairs-map Turn Before offered (cond ((network_of t).joins f.ride l.b) (map (by_changing f l) ((network_of t).targets l.a)) [])
          (pairs-cond Before ((network_of t).joins f.ride l.b) (map (by_changing f l) ((network_of t).targets l.a))
          (pairs-map Before ◌<◌ (by_changing f l) ((network_of t).targets l.a) (targets t s p l.a)
          (λ k k' h. inr (refl, inr (refl, inr (refl, inr (refl, inr (refl, h)))))))) (λ x y h. h),
    )

    change-turns : Pairs Turn changes_by
    unfolding change_events
    change-turns =
        pairs-concat Turn RideBefore joins_by (rides (network_of t) s) (rides-pairs (network_of t) (bits t s p) s p) ride-turns
        (λ l l' w x y m n. by-ride f l l' w x y (of-ride l x m) (of-ride l' y n))

    first-turns : Pairs Turn (directs_by ++ cond (eqb depth 1) changes_by [])
    first-turns =
        pairs-append Turn directs_by (cond (eqb depth 1) changes_by [])
        (pairs-map Turn Before offered (directs (network_of t) by_alone by_changing f) (alone-pairs t s p depth f) (λ x y h. h))
        (pairs-cond Turn (eqb depth 1) changes_by change-turns)
        (λ x y m n. let (k, e) = of-direct x m in let (l, v) = of-change y (cond-mem (eqb depth 1) changes_by n).1 in
        subst (λ (z : Keyed). Turn z y) e (after-direct f k l y v))

    of-first : (x : Keyed) → Memᴰ x (directs_by ++ cond (eqb depth 1) changes_by []) → OfFirst f x
    of-first x m = go (Memᴰ.append_cases directs_by m)
      where
        go : Memᴰ x directs_by ⊎ Memᴰ x (cond (eqb depth 1) changes_by []) → OfFirst f x
        go (inl n) = let (k, e) = of-direct x n in subst (OfFirst f) e (direct k)
        go (inr n) = let (l, v) = of-change x (cond-mem (eqb depth 1) changes_by n).1 in on l x v

  pub turns : (depth : ℕ) → Pairs Turn (events (network_of t) by_alone by_changing depth s)
  unfolding events
  turns depth =
      pairs-concat Turn FirstBefore (λ f. directs_by depth f ++ cond (eqb depth 1) (changes_by depth f) []) (first_rides (network_of t) s)
      (firsts-pairs (network_of t) (bits t s p) s p) (first-turns depth)
      (λ f g w x y m n. by_first f g w x y (of-first depth f x m) (of-first depth g y n))

pub in_turn : (xs : List Keyed) → Pairs Turn xs → InTurn (map stated xs)
in_turn xs w = go (map stated xs) (pairs-map Precedes Turn stated xs w (λ x y h. h))
  where
    go : (es : List Event) → Pairs Precedes es → InTurn es
    go [] v = tt
    go (e ∷ es) v = (v.0, go es v.1)

-- ---- their offers and joins, and where they stop

pub stated-offers : (xs : List Keyed) → offers_in (map stated xs) ≡ offers_of xs
stated-offers [] = refl
stated-offers (tested j ∷ xs) = stated-offers xs
stated-offers (offered x ∷ xs) = ap {B = List Offer} (λ r. x ∷ r) (stated-offers xs)

pub stated-joins : (xs : List Keyed) → joins_in (map stated xs) ≡ by.joins_in xs
stated-joins [] = refl
stated-joins (tested j ∷ xs) = ap suc (stated-joins xs)
stated-joins (offered x ∷ xs) = stated-joins xs

after-offer : (n : ℕ) (x : Offer) (es front : List Event) (b : Bool) → Stops n es front b → Stops n (offer x ∷ es) (offer x ∷ front) b
after-offer n x es front _ (finished e h) = finished (ap {B = List Event} (λ r. offer x ∷ r) e) h
after-offer n x es front _ (stopped b o a c d rest e h) = stopped b o a c d rest (ap {B = List Event} (λ r. offer x ∷ r) e) h

after-join : (n : ℕ) (j : Join Call) (es front : List Event) (b : Bool) → Stops n es front b
    → Stops (suc n) (stated (tested j) ∷ es) (stated (tested j) ∷ front) b
after-join n j es front _ (finished e h) = finished (ap {B = List Event} (λ r. stated (tested j) ∷ r) e) (omega arith)
after-join n j es front _ (stopped b o a c d rest e h) =
    stopped b o a c d rest (ap {B = List Event} (λ r. stated (tested j) ∷ r) e) (ap suc h)

pub stops_so : (n : ℕ) (xs : List Keyed) → Stops n (map stated xs) (map stated (up_to n xs)) (by.finished n xs)
stops_so n [] = finished refl (omega arith)
stops_so n (offered x ∷ xs) = after-offer n x _ _ _ (stops_so n xs)
stops_so zero (tested j ∷ xs) = stopped j.first.ride.b j.first.o j.first.ride.a j.last.b j.last.a (map stated xs) refl refl
stops_so (suc n) (tested j ∷ xs) = after-join n j _ _ _ (stops_so n xs)

-- ---- the program's own

abbrev pub keyed_of : Timetable → List Keyed
keyed_of t = events (network_of t) by_alone by_changing t.max_transfers (sorted t)

-- by the journeys of the offers
abbrev played : Timetable → Keyed → by.Event (Join Call) Journey
played t x = event_by (λ (c : Call). c) (to_j t) x

same-events : (t : Timetable) → map (played t) (keyed_of t) ≡ events_of t
unfolding events_of
same-events t =
    events-of-images (network_of t) (network_of t) (λ c. c) t.max_transfers (sorted t) (to_j t) by_alone by_changing (direct_by t)
    (change_by t)
    (record {
      same = λ x y m n. refl;
      board = λ x m. refl;
      alight = λ x m. refl;
      origins = λ x m. refl;
      targets = λ x m. refl;
      joins = λ e x y z m n o. refl;
    })
    (record { alone = λ f k r o m. refl; changing = λ e f l k r o i m. refl })
    ∙ ap (events (network_of t) (direct_by t) (change_by t) t.max_transfers) (map-id (sorted t))

module _ (t : Timetable) where
  upto-played : (n : ℕ) (xs : List Keyed) → up_to n (map (played t) xs) ≡ map (played t) (up_to n xs)
  upto-played n [] = refl
  upto-played n (offered x ∷ xs) = ap {B = List (by.Event (Join Call) Journey)} (λ r. offered (to_j t x) ∷ r) (upto-played n xs)
  upto-played zero (tested j ∷ xs) = refl
  upto-played (suc n) (tested j ∷ xs) = ap {B = List (by.Event (Join Call) Journey)} (λ r. tested j ∷ r) (upto-played n xs)

  offers-played : (xs : List Keyed) → offers_of (map (played t) xs) ≡ map (to_j t) (offers_of xs)
  offers-played [] = refl
  offers-played (tested j ∷ xs) = offers-played xs
  offers-played (offered x ∷ xs) = ap {B = List Journey} (λ r. to_j t x ∷ r) (offers-played xs)

  pub joins-played : (xs : List Keyed) → joins_of (map (played t) xs) ≡ joins_of xs
  joins-played [] = refl
  joins-played (tested j ∷ xs) = ap {B = List (Join Call)} (λ r. j ∷ r) (joins-played xs)
  joins-played (offered x ∷ xs) = joins-played xs

  finished-played : (n : ℕ) (xs : List Keyed) → by.finished n (map (played t) xs) ≡ by.finished n xs
  finished-played n [] = refl
  finished-played n (offered x ∷ xs) = finished-played n xs
  finished-played zero (tested j ∷ xs) = refl
  finished-played (suc n) (tested j ∷ xs) = finished-played n xs

  pub offers-keyed : (n : ℕ) → map (to_j t) (offers_of (up_to n (keyed_of t))) ≡ offers_within n t
  unfolding offers_within
  offers-keyed n = sym (offers-played (up_to n (keyed_of t)))
      ∙ ap offers_of (sym (upto-played n (keyed_of t)) ∙ ap (up_to n) (same-events t))

  pub count-keyed : (n : ℕ) → by.joins_in (up_to n (keyed_of t)) ≡ joins_within n t
  unfolding joins_within
  count-keyed n = ap lib.ListN.length (sym (joins-played (up_to n (keyed_of t)))
      ∙ ap joins_of (sym (upto-played n (keyed_of t)) ∙ ap (up_to n) (same-events t)))

  pub finished-keyed : (n : ℕ) → by.finished n (keyed_of t) ≡ finished_within n t
  unfolding finished_within
  finished-keyed n = sym (finished-played n (keyed_of t)) ∙ ap (by.finished n) (same-events t)

  pub joins-keyed : joins_of (keyed_of t) ≡ joins_of (events_of t)
  joins-keyed = sym (joins-played (keyed_of t)) ∙ ap joins_of (same-events t)
