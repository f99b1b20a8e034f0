-- Rides and journeys of images are the images of rides and journeys.
use mathlib.Core.Path.{◌≡◌, refl, sym, ap, ◌∙◌}
use mathlib.Core.Bool.{Bool, true, false, cond}
use mathlib.Core.List.{List, [], ◌++◌, map, map-append, map-id, map-map, Memᴰ}
use Prim.Native.Nat.{ℕ}
use lib.Dec.{eqb}
use borrow.Author.Tests.{eqb-true}
use Rattle.laws.specs.Lists.{concat_map, filterb, take_while}
use Rattle.laws.specs.Tails.{Tail}
use Rattle.laws.proofs.Maps.{filterb-map}
use Rattle.laws.proofs.Agree.{concat_map-agree, take_while-agree, take_while-member}
use Rattle.laws.proofs.Places.{concat_map-cong, concat_map-map, map-concat_map, map-cond, take_while-map}
use Rattle.laws.proofs.Tails.{tail-mem, tail-rest}
use Rattle.ways.specs.Rides.{Leg, leg, First, first_ride, Network, alightings, rides, first_rides, joined_rides, directs, changes, journeys}
use Rattle.ways.specs.Images.{leg_by, first_by, Images, Stand, RideIn, RidesOfImages, FirstRidesOfImages, JourneysOfImages}
use Rattle.laws.proofs.Flat.{map-agree, tails-agree, tails-map, map-tails}
use Rattle.ways.proofs.RideLaws.{rides-mem, firsts-mem, joined-mem, listed_in}

module _ {C D : Type 0} (N : Network C) (M : Network D) (h : C → D) (depth : ℕ) (s : List C) (w : Images N M h depth s) where
  alight-images : (b : C) (later : List C) → Tail b later s → alightings M (h b) (map h later) ≡ map h (alightings N b later)
  alight-images b later t =
      let run : take_while (M.same (h b)) (map h later) ≡ map h (take_while (N.same b) later) =
      take_while-map h (M.same (h b)) later
      ∙ ap (map h) (take_while-agree (λ x. M.same (h b) (h x)) (N.same b) later
      (λ x m. w.same b x (tail-mem b later s t) (tail-rest b later s t m))) in
      ap (filterb M.alight) run
      ∙ filterb-map h N.alight M.alight (take_while (N.same b) later)
      (λ x m. w.alight x (tail-rest b later s t (take_while-member (N.same b) later m)))

  rides-images : rides M (map h s) ≡ map (leg_by h) (rides N s)
  unfolding rides
  rides-images =
      tails-map h (λ b later. cond (M.board b) (map (leg b) (alightings M b later)) []) s
      ∙ tails-agree (λ b later. cond (M.board (h b)) (map (leg (h b)) (alightings M (h b) (map h later))) [])
      (λ b later. map (leg_by h) (cond (N.board b) (map (leg b) (alightings N b later)) [])) s each
      ∙ sym (map-tails (leg_by h) (λ b later. cond (N.board b) (map (leg b) (alightings N b later)) []) s)
    where
      each : (b : C) (later : List C) → Tail b later s
          → cond (M.board (h b)) (map (leg (h b)) (alightings M (h b) (map h later))) []
          ≡ map (leg_by h) (cond (N.board b) (map (leg b) (alightings N b later)) [])
      each b later t =
          rw (
            w.board b (tail-mem b later s t),
            alight-images b later t,
            map-cond (N.board b) (leg_by h)
                (map (leg b) (alightings N b later)),
            map-map,
            map-map,
          ) refl

  from-images : (b : C) (later : List C) → Tail b later s → (o : ℕ)
      → map (first_ride o (h b)) (alightings M (h b) (map h later)) ≡ map (first_by h) (map (first_ride o b) (alightings N b later))
  from-images b later t o = rw (alight-images b later t, map-map, map-map) refl

  firsts-images : first_rides M (map h s) ≡ map (first_by h) (first_rides N s)
  unfolding first_rides
  firsts-images =
      tails-map h (λ b later. cond (M.board b) (concat_map (λ o. map (first_ride o b) (alightings M b later)) (M.origins b)) []) s
      ∙ tails-agree
      (λ b later. cond (M.board (h b)) (concat_map (λ o. map (first_ride o (h b)) (alightings M (h b) (map h later))) (M.origins (h b))) [])
      (λ b later. map (first_by h) (cond (N.board b) (concat_map (λ o. map (first_ride o b) (alightings N b later)) (N.origins b)) [])) s
      each
      ∙ sym (map-tails (first_by h)
      (λ b later. cond (N.board b) (concat_map (λ o. map (first_ride o b) (alightings N b later)) (N.origins b)) []) s)
    where
      each : (b : C) (later : List C) → Tail b later s
          → cond (M.board (h b)) (concat_map (λ o. map (first_ride o (h b)) (alightings M (h b) (map h later))) (M.origins (h b))) []
          ≡ map (first_by h) (cond (N.board b) (concat_map (λ o. map (first_ride o b) (alightings N b later)) (N.origins b)) [])
      each b later t =
          let all =
          concat_map-cong (λ o. map (first_ride o (h b)) (alightings M (h b) (map h later)))
          (λ o. map (first_by h) (map (first_ride o b) (alightings N b later))) (from-images b later t) (N.origins b)
          ∙ sym (map-concat_map (first_by h) (λ o. map (first_ride o b) (alightings N b later)) (N.origins b)) in
          rw (
            w.board b (tail-mem b later s t),
            w.origins b (tail-mem b later s t),
            all,
            map-cond (N.board b) (first_by h)
                (concat_map (λ o. map (first_ride o b) (alightings N b later)) (N.origins b)),
          ) refl

  pub joined-images : depth ≡ 1 → (r : Leg C) → RideIn s r → joined_rides M (map h s) (leg_by h r) ≡ map (leg_by h) (joined_rides N s r)
  unfolding joined_rides
  joined-images one r (p, q) =
      ap (filterb (λ l. M.joins (leg_by h r) l.b)) rides-images
      ∙ filterb-map (leg_by h) (λ l. N.joins r l.b) (λ l. M.joins (leg_by h r) l.b) (rides N s)
      (λ l m. w.joins one r.b r.a l.b p q (listed_in N s l (rides-mem N s l m)).0)

  module _ {A B : Type 0} (φ : A → B) (direct : First C → ℕ → A) (change : First C → Leg C → ℕ → A) (direct' : First D → ℕ → B)
      (change' : First D → Leg D → ℕ → B)
      (v : Stand N h depth s φ direct change direct' change') where
    module _ (f : First C) (p : RideIn s f.ride) (o : Memᴰ f.o (N.origins f.ride.b)) where
      pub directs-images : map φ (directs N direct change f) ≡ directs M direct' change' (first_by h f)
      unfolding directs
      directs-images =
          rw (map-map, w.targets f.ride.a p.1)
          (map-agree (λ k. φ (direct f k)) (direct' (first_by h f)) (N.targets f.ride.a) (λ k m. v.alone f k p o m))

      changes-images : depth ≡ 1 → map φ (changes N direct change s f) ≡ changes M direct' change' (map h s) (first_by h f)
      unfolding changes
      changes-images one =
          map-concat_map φ (λ l. map (change f l) (N.targets l.a)) (joined_rides N s f.ride)
          ∙ concat_map-agree (λ l. map φ (map (change f l) (N.targets l.a)))
          (λ l. map (change' (first_by h f) (leg_by h l)) (M.targets (h l.a))) (joined_rides N s f.ride) each
          ∙ sym (concat_map-map (leg_by h) (λ l. map (change' (first_by h f) l) (M.targets l.a)) (joined_rides N s f.ride))
          ∙ ap (concat_map (λ l. map (change' (first_by h f) l) (M.targets l.a))) (sym (joined-images one f.ride p))
        where
          each : (l : Leg C) → Memᴰ l (joined_rides N s f.ride)
              → map φ (map (change f l) (N.targets l.a)) ≡ map (change' (first_by h f) (leg_by h l)) (M.targets (h l.a))
          each l m =
              let i = listed_in N s l (joined-mem N s f.ride l m).0 in
              rw (map-map, w.targets l.a i.1)
              (map-agree (λ k. φ (change f l k)) (change' (first_by h f) (leg_by h l)) (N.targets l.a)
              (λ k n. v.changing one f l k p o i n))

      after-images : map φ (directs N direct change f ++ cond (eqb depth 1) (changes N direct change s f) [])
          ≡ directs M direct' change' (first_by h f) ++ cond (eqb depth 1) (changes M direct' change' (map h s) (first_by h f)) []
      after-images =
          map-append φ (directs N direct change f) (cond (eqb depth 1) (changes N direct change s f) [])
          ∙ rw directs-images (go (eqb depth 1) refl)
        where
          go : (b : Bool) → eqb depth 1 ≡ b → directs M direct' change' (first_by h f) ++ map φ (cond b (changes N direct change s f) [])
              ≡ directs M direct' change' (first_by h f) ++ cond b (changes M direct' change' (map h s) (first_by h f)) []
          go true e = rw (changes-images (eqb-true depth 1 e)) refl
          go false e = refl

    journeys-images : map φ (journeys N direct change depth s) ≡ journeys M direct' change' depth (map h s)
    unfolding journeys
    journeys-images =
        map-concat_map φ (λ f. directs N direct change f ++ cond (eqb depth 1) (changes N direct change s f) []) (first_rides N s)
        ∙ concat_map-agree _
        (λ f. directs M direct' change' (first_by h f) ++ cond (eqb depth 1) (changes M direct' change' (map h s) (first_by h f)) [])
        (first_rides N s)
        (λ f m. let (l, o) = firsts-mem N s f m in after-images f (listed_in N s f.ride l) o)
        ∙ sym (concat_map-map (first_by h)
        (λ f. directs M direct' change' f ++ cond (eqb depth 1) (changes M direct' change' (map h s) f) []) (first_rides N s))
        ∙ ap (concat_map (λ f. directs M direct' change' f ++ cond (eqb depth 1) (changes M direct' change' (map h s) f) []))
        (sym firsts-images)

module _ {C D : Type 0} (N : Network C) (M : Network D) (h : C → D) (depth : ℕ) (s : List C) where
  pub rides-of-images : RidesOfImages N M h depth s
  rides-of-images w = rides-images N M h depth s w

  pub first-rides-of-images : FirstRidesOfImages N M h depth s
  first-rides-of-images w = firsts-images N M h depth s w

  module _ {A B : Type 0} (φ : A → B) (direct : First C → ℕ → A) (change : First C → Leg C → ℕ → A) (direct' : First D → ℕ → B)
      (change' : First D → Leg D → ℕ → B) where
    pub journeys-of-images : JourneysOfImages N M h depth s φ direct change direct' change'
    journeys-of-images w v = journeys-images N M h depth s w φ direct change direct' change' v

-- what is made of each journey
pub journeys-map : {C A B : Type 0} (N : Network C) (φ : A → B) (direct : First C → ℕ → A) (change : First C → Leg C → ℕ → A) (depth : ℕ)
    (s : List C)
    → map φ (journeys N direct change depth s) ≡ journeys N (λ f k. φ (direct f k)) (λ f l k. φ (change f l k)) depth s
journeys-map N φ direct change depth s =
    journeys-of-images N N (λ x. x) depth s φ direct change (λ f k. φ (direct f k)) (λ f l k. φ (change f l k))
    (record {
      same = λ x y m n. refl;
      board = λ x m. refl;
      alight = λ x m. refl;
      origins = λ x m. refl;
      targets = λ x m. refl;
      joins = λ one x y z m n i. refl;
    })
    (record { alone = λ f k p o m. refl; changing = λ one f l k p o q m. refl })
    ∙ ap (journeys N (λ f k. φ (direct f k)) (λ f l k. φ (change f l k)) depth) (map-id s)
