-- The events of a search: their offers are the journeys, their joins every first ride with every ride; and the events of images.
use mathlib.Core.Path.{◌≡◌, refl, sym, ap, ◌∙◌}
use mathlib.Core.Bool.{Bool, true, false, cond}
use mathlib.Core.List.{List, [], ◌∷◌, ◌++◌, map, map-append, map-map, Memᴰ}
use Prim.Native.Nat.{ℕ, ◌+◌, ◌*◌}
use native.Mathlib.Omega.{arith}
use lib.Dec.{eqb}
use lib.ListN.{length, length-append, length-map}
use borrow.Author.Tests.{eqb-true}
use Rattle.laws.specs.Lists.{concat_map}
use Rattle.laws.proofs.Agree.{concat_map-agree}
use Rattle.laws.proofs.Places.{concat_map-cong, concat_map-cond, concat_map-map, map-concat_map, map-cond}
use Rattle.laws.proofs.Flat.{concat_map-filterb, flat-single, map-agree}
use Rattle.ways.specs.Rides.{Leg, First, Network, rides, first_rides, joined_rides, directs, changes, journeys}
use Rattle.ways.specs.Images.{leg_by, first_by, Images, Stand, RideIn}
use Rattle.ways.proofs.RideLaws.{rides-mem, firsts-mem, listed_in}
use Rattle.ways.proofs.ImageLaws.{rides-of-images, first-rides-of-images, directs-images}
use Rattle.counted.specs.Events.{Event, tested, offered, joins_of, offers_of}
use Rattle.counted.specs.Joins.{Join, join_of, join_events, change_events, events, pairs, event_by, OffersOfEvents, JoinsOfEvents}
use Rattle.counted.specs.Joins.{CountOfEvents, CountOfChanges, EventsOfImages}
use Rattle.counted.proofs.EventLaws.{offers-append, joins-append, offers-offered, joins-offered, offers-flat, joins-flat}

module _ {C A : Type 0} (N : Network C) (direct : First C → ℕ → A) (change : First C → Leg C → ℕ → A) (depth : ℕ) (s : List C) where
  -- ---- joins

  change-joins : (f : First C) → joins_of (change_events N direct change s f) ≡ map (join_of f) (rides N s)
  unfolding change_events join_events
  change-joins f =
      joins-flat (join_events N direct change f) (rides N s)
      ∙ concat_map-cong (λ l. joins_of (join_events N direct change f l)) (λ l. join_of f l ∷ [])
      (λ l. ap {B = List (Join C)} (λ r. join_of f l ∷ r) (joins-offered (cond (N.joins f.ride l.b) (map (change f l) (N.targets l.a)) [])))
      (rides N s)
      ∙ flat-single (join_of f) (rides N s)

  first-joins : (f : First C)
      → joins_of (map offered (directs N direct change f) ++ cond (eqb depth 1) (change_events N direct change s f) [])
      ≡ cond (eqb depth 1) (map (join_of f) (rides N s)) []
  first-joins f =
      joins-append (map offered (directs N direct change f)) (cond (eqb depth 1) (change_events N direct change s f) [])
      ∙ rw (joins-offered {J = Join C} (directs N direct change f)) (go (eqb depth 1))
    where
      go : (b : Bool) → joins_of (cond b (change_events N direct change s f) []) ≡ cond b (map (join_of f) (rides N s)) []
      go true = change-joins f
      go false = refl

  pub joins-of-events : JoinsOfEvents N direct change depth s
  unfolding events
  joins-of-events =
      joins-flat (λ f. map offered (directs N direct change f) ++ cond (eqb depth 1) (change_events N direct change s f) [])
      (first_rides N s)
      ∙ concat_map-cong _ (λ f. cond (eqb depth 1) (map (join_of f) (rides N s)) []) first-joins (first_rides N s)
      ∙ concat_map-cond (eqb depth 1) (λ f. map (join_of f) (rides N s)) (first_rides N s)

  -- ---- how many

  pub count-of-changes : CountOfChanges N direct change depth s
  count-of-changes f = ap length (change-joins f) ∙ length-map (rides N s) (join_of f)

  pairs-count : (fs : List (First C)) (ls : List (Leg C)) → length (pairs fs ls) ≡ length fs * length ls
  pairs-count [] ls = omega arith
  pairs-count (f ∷ fs) ls =
      length-append (map (join_of f) ls) (pairs fs ls) ∙ rw (length-map ls (join_of f), pairs-count fs ls) (omega arith)

  pub count-of-events : CountOfEvents N direct change depth s
  count-of-events = ap length joins-of-events ∙ go (eqb depth 1)
    where
      go : (b : Bool) → length (cond b (pairs (first_rides N s) (rides N s)) []) ≡ cond b (length (first_rides N s) * length (rides N s)) 0
      go true = pairs-count (first_rides N s) (rides N s)
      go false = refl

  -- ---- offers

  change-offers : (f : First C) → offers_of (change_events N direct change s f) ≡ changes N direct change s f
  unfolding change_events join_events changes joined_rides
  change-offers f =
      offers-flat (join_events N direct change f) (rides N s)
      ∙ concat_map-cong (λ l. offers_of (join_events N direct change f l))
      (λ l. cond (N.joins f.ride l.b) (map (change f l) (N.targets l.a)) [])
      (λ l. offers-offered (Join C) (cond (N.joins f.ride l.b) (map (change f l) (N.targets l.a)) [])) (rides N s)
      ∙ sym (concat_map-filterb (λ l. N.joins f.ride l.b) (λ l. map (change f l) (N.targets l.a)) (rides N s))

  first-offers : (f : First C)
      → offers_of (map offered (directs N direct change f) ++ cond (eqb depth 1) (change_events N direct change s f) [])
      ≡ directs N direct change f ++ cond (eqb depth 1) (changes N direct change s f) []
  first-offers f =
      offers-append (map offered (directs N direct change f)) (cond (eqb depth 1) (change_events N direct change s f) [])
      ∙ rw (offers-offered (Join C) (directs N direct change f)) (go (eqb depth 1))
    where
      go : (b : Bool) → directs N direct change f ++ offers_of (cond b (change_events N direct change s f) [])
          ≡ directs N direct change f ++ cond b (changes N direct change s f) []
      go true = ap (λ (r : List A). directs N direct change f ++ r) (change-offers f)
      go false = refl

  pub offers-of-events : OffersOfEvents N direct change depth s
  unfolding events journeys
  offers-of-events =
      offers-flat (λ f. map offered (directs N direct change f) ++ cond (eqb depth 1) (change_events N direct change s f) [])
      (first_rides N s)
      ∙ concat_map-cong _ (λ f. directs N direct change f ++ cond (eqb depth 1) (changes N direct change s f) []) first-offers
      (first_rides N s)

-- ---- events of images

module _ {C D A B : Type 0} (N : Network C) (M : Network D) (h : C → D) (depth : ℕ) (s : List C) (w : Images N M h depth s)
    (φ : A → B) (direct : First C → ℕ → A) (change : First C → Leg C → ℕ → A) (direct' : First D → ℕ → B)
    (change' : First D → Leg D → ℕ → B)
    (v : Stand N h depth s φ direct change direct' change') where
  offered-images : (os : List A) → map (event_by h φ) (map offered os) ≡ map offered (map φ os)
  offered-images os = map-map (event_by h φ) offered os ∙ sym (map-map offered φ os)

  module _ (f : First C) (p : RideIn s f.ride) (o : Memᴰ f.o (N.origins f.ride.b)) where
    join-images : depth ≡ 1 → (l : Leg C) → RideIn s l
        → map (event_by h φ) (join_events N direct change f l) ≡ join_events M direct' change' (first_by h f) (leg_by h l)
    unfolding join_events
    join-images one l i =
        let e : map φ (cond (N.joins f.ride l.b) (map (change f l) (N.targets l.a)) [])
        ≡ cond (M.joins (leg_by h f.ride) (h l.b)) (map (change' (first_by h f) (leg_by h l)) (M.targets (h l.a))) [] =
        map-cond (N.joins f.ride l.b) φ (map (change f l) (N.targets l.a))
        ∙ rw (w.joins one f.ride.b f.ride.a l.b p.0 p.1 i.0, map-map, w.targets l.a i.1)
        (ap (λ (r : List B). cond (N.joins f.ride l.b) r [])
        (map-agree (λ k. φ (change f l k)) (change' (first_by h f) (leg_by h l)) (N.targets l.a) (λ k n. v.changing one f l k p o i n))) in
        ap {B = List (Event (Join D) B)} (λ r. tested (join_of (first_by h f) (leg_by h l)) ∷ r)
        (offered-images (cond (N.joins f.ride l.b) (map (change f l) (N.targets l.a)) [])
        ∙ ap {B = List (Event (Join D) B)} (map offered) e)

    change-images : depth ≡ 1
        → map (event_by h φ) (change_events N direct change s f) ≡ change_events M direct' change' (map h s) (first_by h f)
    unfolding change_events
    change-images one =
        map-concat_map (event_by h φ) (join_events N direct change f) (rides N s)
        ∙ concat_map-agree (λ l. map (event_by h φ) (join_events N direct change f l))
        (λ l. join_events M direct' change' (first_by h f) (leg_by h l)) (rides N s)
        (λ l m. join-images one l (listed_in N s l (rides-mem N s l m)))
        ∙ sym (concat_map-map (leg_by h) (join_events M direct' change' (first_by h f)) (rides N s))
        ∙ ap (concat_map (join_events M direct' change' (first_by h f))) (sym (rides-of-images N M h depth s w))

    first-images : map (event_by h φ) (map offered (directs N direct change f) ++ cond (eqb depth 1) (change_events N direct change s f) [])
        ≡ map offered (directs M direct' change' (first_by h f)) ++ cond (eqb depth 1)
        (change_events M direct' change' (map h s) (first_by h f)) []
    first-images =
        map-append (event_by h φ) (map offered (directs N direct change f)) (cond (eqb depth 1) (change_events N direct change s f) [])
        ∙ rw (offered-images (directs N direct change f), directs-images N M h depth s w φ direct change direct' change' v f p o)
        (go (eqb depth 1) refl)
      where
        go : (b : Bool) → eqb depth 1 ≡ b
            → map offered (directs M direct' change' (first_by h f)) ++ map (event_by h φ) (cond b (change_events N direct change s f) [])
            ≡ map offered (directs M direct' change' (first_by h f)) ++ cond b (change_events M direct' change' (map h s) (first_by h f)) []
        go true e =
            ap (λ (r : List (Event (Join D) B)). map offered (directs M direct' change' (first_by h f)) ++ r)
            (change-images (eqb-true depth 1 e))
        go false e = refl

  events-images : map (event_by h φ) (events N direct change depth s) ≡ events M direct' change' depth (map h s)
  unfolding events
  events-images =
      map-concat_map (event_by h φ)
      (λ f. map offered (directs N direct change f) ++ cond (eqb depth 1) (change_events N direct change s f) []) (first_rides N s)
      ∙ concat_map-agree _
      (λ f. map offered (directs M direct' change' (first_by h f)) ++ cond (eqb depth 1)
      (change_events M direct' change' (map h s) (first_by h f)) []) (first_rides N s)
      (λ f m. let (l, o) = firsts-mem N s f m in first-images f (listed_in N s f.ride l) o)
      ∙ sym (concat_map-map (first_by h)
      (λ f. map offered (directs M direct' change' f) ++ cond (eqb depth 1) (change_events M direct' change' (map h s) f) [])
      (first_rides N s))
      ∙ ap (concat_map
      (λ f. map offered (directs M direct' change' f) ++ cond (eqb depth 1) (change_events M direct' change' (map h s) f) []))
      (sym (first-rides-of-images N M h depth s w))

module _ {C D A B : Type 0} (N : Network C) (M : Network D) (h : C → D) (depth : ℕ) (s : List C) (φ : A → B) (direct : First C → ℕ → A)
    (change : First C → Leg C → ℕ → A)
    (direct' : First D → ℕ → B) (change' : First D → Leg D → ℕ → B) where
  pub events-of-images : EventsOfImages N M h depth s φ direct change direct' change'
  events-of-images w v = events-images N M h depth s w φ direct change direct' change' v
