-- Routes by depth, over calls of any type: who is listed, where three rides stand, up to one change, and images.
use mathlib.Core.Path.{◌≡◌, refl, sym, ap, subst, ◌∙◌}
use mathlib.Core.Bool.{Bool, true, false, cond}
use mathlib.Core.List.Memᴰ
use mathlib.Core.List.{List, [], ◌∷◌, ◌++◌, map, map-append, map-map, append-nil, Memᴰ}
use Prim.Native.Nat.{ℕ, zero, suc, ◌≤◌}
use native.Mathlib.Omega.{arith}
use lib.Dec.{eqb, leb}
use lib.ListN.{length}
use borrow.Author.Tests.{le-leb, leb-true}
use Rattle.laws.specs.Lists.{concat_map}
use Rattle.laws.proofs.Lists.{filterb-mem, mem-filterb}
use Rattle.laws.proofs.Folds.{concat_map-mem, mem-concat_map}
use Rattle.laws.proofs.Agree.{concat_map-agree}
use Rattle.laws.proofs.Places.{concat_map-cong, concat_map-map, map-concat_map}
use Rattle.ways.specs.Rides.{Leg, First, Network, first_rides, joined_rides, directs, changes, journeys}
use Rattle.ways.specs.Images.{leg_by, first_by, Images, RideIn}
use Rattle.ways.proofs.RideLaws.{Listed, firsts-mem, mem-firsts, joined-mem, listed_in}
use Rattle.ways.proofs.ImageLaws.{first-rides-of-images, joined-images}
use Rattle.ways.specs.Routes.{Way, Route, here, ride_then, route_of, allowed, onward, pass, routes, UpToOne, ThreeLast, way_by, route_by}
use Rattle.ways.specs.Routes.{RoutesOfImages}

module _ {C : Type 0} (N : Network C) (s : List C) where
  -- a way on has as many rides as there are changes
  way-length : (n : ℕ) (r : Leg C) (w : Way C) → Memᴰ w (onward N n s r) → length w.rides ≡ n
  unfolding onward
  way-length zero r w m = let (k, i, e) = Memᴰ.of_map here (N.targets r.a) m in ap (λ (v : Way C). length v.rides) (sym e)
  way-length (suc n) r w m =
      let (l, i, m₁) = concat_map-mem (λ l. map (ride_then l) (onward N n s l)) (joined_rides N s r) m in
      let (v, j, e) = Memᴰ.of_map (ride_then l) (onward N n s l) m₁ in
      ap (λ (v : Way C). length v.rides) (sym e) ∙ ap suc (way-length n l v j)

  -- a route is listed by a first ride and a number of changes
  pub record Passed (ns : List ℕ) (r : Route C) : Type 0 where
    pub n : ℕ
    pub number : Memᴰ n ns
    pub ride : Listed N s r.first.ride
    pub origin : Memᴰ r.first.o (N.origins r.first.ride.b)
    pub on : Memᴰ r.way (onward N n s r.first.ride)

  pub pass-mem : (ns : List ℕ) (r : Route C) → Memᴰ r (pass N ns s) → Passed ns r
  unfolding pass
  pass-mem ns r m =
      let (f, i, m₁) = concat_map-mem (λ f. concat_map (λ n. map (route_of f) (onward N n s f.ride)) ns) (first_rides N s) m in
      let (n, j, m₂) = concat_map-mem (λ n. map (route_of f) (onward N n s f.ride)) ns m₁ in
      let (w, k, e) = Memᴰ.of_map (route_of f) (onward N n s f.ride) m₂ in
      let (l, o) = firsts-mem N s f i in
      subst (Passed ns) e (record { n = n; number = j; ride = l; origin = o; on = k })

  pub mem-pass : (ns : List ℕ) (r : Route C) → Passed ns r → Memᴰ r (pass N ns s)
  unfolding pass
  mem-pass ns r w =
      let f = r.first in
      mem-concat_map (λ f. concat_map (λ n. map (route_of f) (onward N n s f.ride)) ns) (mem-firsts N s f w.ride w.origin)
      (mem-concat_map (λ n. map (route_of f) (onward N n s f.ride)) w.number (Memᴰ.map (route_of f) w.on))

-- ---- three rides last

one_of_two : (n : ℕ) → Memᴰ n (0 ∷ 1 ∷ []) → n ≤ 1
one_of_two n (Memᴰ.head e) = omega arith
one_of_two n (Memᴰ.tail (Memᴰ.head e)) = omega arith
one_of_two n (Memᴰ.tail (Memᴰ.tail m)) = absurd (Memᴰ.not-nil m)

only_two : (n : ℕ) → Memᴰ n (2 ∷ []) → n ≡ 2
only_two n (Memᴰ.head e) = e
only_two n (Memᴰ.tail m) = absurd (Memᴰ.not-nil m)

pub allowed-mem : (depth n : ℕ) (ns : List ℕ) → Memᴰ n (allowed depth ns) → Memᴰ n ns × (n ≤ depth)
allowed-mem depth n ns m = let (i, e) = filterb-mem (λ n. leb n depth) ns m in (i, leb-true n depth e)

pub mem-allowed : (depth n : ℕ) (ns : List ℕ) → Memᴰ n ns → n ≤ depth → Memᴰ n (allowed depth ns)
mem-allowed depth n ns m h = mem-filterb (λ n. leb n depth) m (le-leb n depth h)

pub three-last : {C : Type 0} (N : Network C) (depth : ℕ) (s : List C) → ThreeLast N depth s
unfolding routes
three-last N depth s =
    record {
      others = pass N (allowed depth (0 ∷ 1 ∷ [])) s;
      threes = pass N (allowed depth (2 ∷ [])) s;
      all = refl;
      fewer = λ r m.
          let w = pass-mem N s (allowed depth (0 ∷ 1 ∷ [])) r m in
          let h = one_of_two w.n (allowed-mem depth w.n (0 ∷ 1 ∷ []) w.number).0 in
          omega (arith, way-length N s w.n r.first.ride r.way w.on);
      three = λ r m.
          let w = pass-mem N s (allowed depth (2 ∷ [])) r m in
          let (i, h) = allowed-mem depth w.n (2 ∷ []) w.number in
          let e = only_two w.n i in
          (way-length N s w.n r.first.ride r.way w.on ∙ e, omega arith);
    }

-- ---- up to one change

few : (depth : ℕ) → depth ≤ 1 → (allowed depth (0 ∷ 1 ∷ []) ≡ 0 ∷ cond (eqb depth 1) (1 ∷ []) []) × (allowed depth (2 ∷ []) ≡ [])
few zero h = (refl, refl)
few (suc zero) h = (refl, refl)
few (suc (suc n)) h = absurd (omega arith)

module _ {C : Type 0} (N : Network C) where
  none_passed : (s : List C) (fs : List (First C)) → concat_map (λ f. concat_map (λ n. map (route_of f) (onward N n s f.ride)) []) fs ≡ []
  none_passed s [] = refl
  none_passed s (f ∷ fs) = none_passed s fs

  module _ {A : Type 0} (depth : ℕ) (s : List C) (direct : First C → ℕ → A) (change : First C → Leg C → ℕ → A) (make : Route C → A)
      (alone : (f : First C) (k : ℕ) → make (route_of f (here k)) ≡ direct f k)
      (changing : (f : First C) (l : Leg C) (k : ℕ) → make (route_of f (ride_then l (here k))) ≡ change f l k) where
    by-target : {B : Type 0} (g : B → Route C) (h : B → A) → ((x : B) → make (g x) ≡ h x) → (xs : List B) → map make (map g xs) ≡ map h xs
    by-target g h e [] = refl
    by-target {B} g h e (x ∷ xs) = rw (e x) (ap {B = List A} (λ r. h x ∷ r) (by-target g h e xs))

    no_change : (f : First C) → map make (map (route_of f) (onward N 0 s f.ride)) ≡ directs N direct change f
    unfolding onward directs
    no_change f =
        rw (map-map (route_of f) here (N.targets f.ride.a)) (by-target (λ k. route_of f (here k)) (direct f) (alone f) (N.targets f.ride.a))

    one_change : (f : First C) → map make (map (route_of f) (onward N 1 s f.ride)) ≡ changes N direct change s f
    unfolding onward changes
    one_change f =
        ap (map make) (map-concat_map (route_of f) (λ l. map (ride_then l) (map here (N.targets l.a))) (joined_rides N s f.ride))
        ∙ map-concat_map make (λ l. map (route_of f) (map (ride_then l) (map here (N.targets l.a)))) (joined_rides N s f.ride)
        ∙ concat_map-cong (λ l. map make (map (route_of f) (map (ride_then l) (map here (N.targets l.a)))))
        (λ l. map (change f l) (N.targets l.a)) each (joined_rides N s f.ride)
      where
        each : (l : Leg C) → map make (map (route_of f) (map (ride_then l) (map here (N.targets l.a)))) ≡ map (change f l) (N.targets l.a)
        each l =
            rw (map-map (ride_then l) here (N.targets l.a), map-map (route_of f) (λ k. ride_then l (here k)) (N.targets l.a))
            (by-target (λ k. route_of f (ride_then l (here k))) (change f l) (changing f l) (N.targets l.a))

    after : (f : First C) → map make (concat_map (λ n. map (route_of f) (onward N n s f.ride)) (0 ∷ cond (eqb depth 1) (1 ∷ []) []))
        ≡ directs N direct change f ++ cond (eqb depth 1) (changes N direct change s f) []
    after f = go (eqb depth 1)
      where
        go : (b : Bool) → map make (concat_map (λ n. map (route_of f) (onward N n s f.ride)) (0 ∷ cond b (1 ∷ []) []))
            ≡ directs N direct change f ++ cond b (changes N direct change s f) []
        go true =
            rw (
              append-nil,
              map-append make (map (route_of f) (onward N 0 s f.ride))
                  (map (route_of f) (onward N 1 s f.ride)),
              no_change f,
              one_change f,
            ) refl
        go false = rw (append-nil, append-nil) (no_change f)

    up_to : depth ≤ 1 → map make (routes N depth s) ≡ journeys N direct change depth s
    unfolding routes pass journeys
    up_to h =
        let (e, z) = few depth h in
        rw (e, z, none_passed s (first_rides N s), append-nil)
        (map-concat_map make (λ f. concat_map (λ n. map (route_of f) (onward N n s f.ride)) (0 ∷ cond (eqb depth 1) (1 ∷ []) []))
        (first_rides N s)
        ∙ concat_map-cong _ (λ f. directs N direct change f ++ cond (eqb depth 1) (changes N direct change s f) []) after (first_rides N s))

pub up-to-one : {C A : Type 0} (N : Network C) (depth : ℕ) (s : List C) (direct : First C → ℕ → A) (change : First C → Leg C → ℕ → A)
    (make : Route C → A)
    → UpToOne N depth s direct change make
up-to-one N depth s direct change make h alone changing = up_to N depth s direct change make alone changing h

-- ---- images

module _ {C D : Type 0} (N : Network C) (M : Network D) (h : C → D) (s : List C) (w : Images N M h 1 s) where
  onward-images : (n : ℕ) (r : Leg C) → RideIn s r → onward M n (map h s) (leg_by h r) ≡ map (way_by h) (onward N n s r)
  unfolding onward
  onward-images zero r p = rw (w.targets r.a p.1, map-map (way_by h) here (N.targets r.a)) refl
  onward-images (suc n) r p =
      ap (concat_map (λ l. map (ride_then l) (onward M n (map h s) l))) (joined-images N M h 1 s w refl r p)
      ∙ concat_map-map (leg_by h) (λ l. map (ride_then l) (onward M n (map h s) l)) (joined_rides N s r)
      ∙ concat_map-agree (λ l. map (ride_then (leg_by h l)) (onward M n (map h s) (leg_by h l)))
      (λ l. map (way_by h) (map (ride_then l) (onward N n s l))) (joined_rides N s r)
      (λ l m. each l (onward-images n l (listed_in N s l (joined-mem N s r l m).0)))
      ∙ sym (map-concat_map (way_by h) (λ l. map (ride_then l) (onward N n s l)) (joined_rides N s r))
    where
      each : (l : Leg C) → onward M n (map h s) (leg_by h l) ≡ map (way_by h) (onward N n s l)
          → map (ride_then (leg_by h l)) (onward M n (map h s) (leg_by h l)) ≡ map (way_by h) (map (ride_then l) (onward N n s l))
      each l e =
          ap (map (ride_then (leg_by h l))) e ∙ map-map (ride_then (leg_by h l)) (way_by h) (onward N n s l)
          ∙ sym (map-map (way_by h) (ride_then l) (onward N n s l))

  pass-images : (ns : List ℕ) → pass M ns (map h s) ≡ map (route_by h) (pass N ns s)
  unfolding pass
  pass-images ns =
      ap (concat_map (λ f. concat_map (λ n. map (route_of f) (onward M n (map h s) f.ride)) ns)) (first-rides-of-images N M h 1 s w)
      ∙ concat_map-map (first_by h) (λ f. concat_map (λ n. map (route_of f) (onward M n (map h s) f.ride)) ns) (first_rides N s)
      ∙ concat_map-agree (λ f. concat_map (λ n. map (route_of (first_by h f)) (onward M n (map h s) (leg_by h f.ride))) ns)
      (λ f. map (route_by h) (concat_map (λ n. map (route_of f) (onward N n s f.ride)) ns)) (first_rides N s)
      (λ f m. each f (listed_in N s f.ride (firsts-mem N s f m).0))
      ∙ sym (map-concat_map (route_by h) (λ f. concat_map (λ n. map (route_of f) (onward N n s f.ride)) ns) (first_rides N s))
    where
      step : (f : First C) → RideIn s f.ride → (n : ℕ)
          → map (route_of (first_by h f)) (onward M n (map h s) (leg_by h f.ride))
          ≡ map (route_by h) (map (route_of f) (onward N n s f.ride))
      step f p n =
          ap (map (route_of (first_by h f))) (onward-images n f.ride p) ∙ map-map (route_of (first_by h f)) (way_by h) (onward N n s f.ride)
          ∙ sym (map-map (route_by h) (route_of f) (onward N n s f.ride))

      each : (f : First C) → RideIn s f.ride
          → concat_map (λ n. map (route_of (first_by h f)) (onward M n (map h s) (leg_by h f.ride))) ns
          ≡ map (route_by h) (concat_map (λ n. map (route_of f) (onward N n s f.ride)) ns)
      each f p =
          concat_map-cong (λ n. map (route_of (first_by h f)) (onward M n (map h s) (leg_by h f.ride)))
          (λ n. map (route_by h) (map (route_of f) (onward N n s f.ride))) (step f p) ns
          ∙ sym (map-concat_map (route_by h) (λ n. map (route_of f) (onward N n s f.ride)) ns)

pub routes-of-images : {C D : Type 0} (N : Network C) (M : Network D) (h : C → D) (depth : ℕ) (s : List C) → RoutesOfImages N M h depth s
unfolding routes
routes-of-images N M h depth s w =
    rw (pass-images N M h s w (allowed depth (0 ∷ 1 ∷ [])), pass-images N M h s w (allowed depth (2 ∷ [])))
    (sym (map-append (route_by h) (pass N (allowed depth (0 ∷ 1 ∷ [])) s) (pass N (allowed depth (2 ∷ [])) s)))
