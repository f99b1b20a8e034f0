-- The rows of three rides and by depth: the recursion offers those of the ways on, the loops those of the pass, and three rides come last.
use mathlib.Core.Path.{◌≡◌, refl, sym, ap, subst, ◌∙◌}
use mathlib.Core.List.Memᴰ
use mathlib.Core.List.{List, [], ◌∷◌, ◌++◌, map, map-append, map-map, append-nil, Memᴰ}
use Prim.Native.Nat.{ℕ, zero, suc}
use native.Mathlib.Omega.{arith}
use borrow.Author.Tests.{le-leb}
use Rattle.laws.specs.Lists.{concat_map, span}
use Rattle.laws.specs.Bits.{bits_of}
use Rattle.laws.proofs.Flat.{map-agree, flat-single}
use Rattle.laws.proofs.Folds.{concat_map-mem}
use Rattle.laws.proofs.Places.{concat_map-cong, map-concat_map, tails-span}
use Rattle.ways.specs.Rides.{Leg, leg, First, first_ride, Network, first_rides, joined_rides}
use Rattle.ways.specs.Routes.{Way, Route, here, ride_then, route_of, onward, pass, routes}
use Rattle.ways.proofs.RideLaws.{over-joined}
use Rattle.ways.proofs.RouteLaws.{up-to-one}
use Rattle.profile.specs.Found.{Row}
use Rattle.search_input.specs.declared.FirstRide.{FirstRide}
use Rattle.rides.specs.Rows.{Sheet, Joins, first_of, first_at, three_row, direct_by, change_by, network_of, rows}
use Rattle.rides.specs.Loops.{over_bits, later_from, over_run, end_at, onward_rows, first_rows_of, pass_rows}
use Rattle.rides.specs.Routes.{on_row, row_to, row_by, three_rows, route_rows, RowsUpToOne, RowsThreeLast}
use Rattle.rides.proofs.RowLaws.{calls_by}

-- ---- three rides

module _ (s : Sheet) (joins : Joins) (n : ℕ) (f : FirstRide) where
  -- the row of a way on from the ride r, before which came the ride p
  abbrev way_row : Leg ℕ → Leg ℕ → Way ℕ → Row
  way_row p r w = on_row s f w.target p r w.rides

  pub rows-of-ways : (left : ℕ) (p r : Leg ℕ)
      → onward_rows left s joins n f p.b p.a r.b r.a ≡ map (way_row p r) (onward (network_of s joins) left (span 0 n) r)
  unfolding onward_rows onward over_bits end_at network_of over_run later_from
  rows-of-ways zero p r =
      flat-single (three_row s f p.b p.a r.b r.a) (bits_of (s.targets (s.at r.a).stop))
      ∙ sym (map-map (way_row p r) here (bits_of (s.targets (s.at r.a).stop)))
  rows-of-ways (suc left) p r =
      let N = network_of s joins in
      let S = span 0 n in
      let G : Leg ℕ → List Row = λ l. onward_rows left s joins n f r.b r.a l.b l.a in
      sym
      (map-concat_map (way_row p r) (λ l. map (ride_then l) (onward N left S l)) (joined_rides N S r)
      ∙ concat_map-cong (λ l. map (way_row p r) (map (ride_then l) (onward N left S l))) G
      (λ l. map-map (way_row p r) (ride_then l) (onward N left S l) ∙ sym (rows-of-ways left r l)) (joined_rides N S r)
      ∙ over-joined N G S r ∙ tails-span _ n n 0 (omega arith) ∙ calls_by n _ _ (λ c. refl))

  -- by two further rides that is the row of the route
  two-rows : (p r : Leg ℕ) (w : Way ℕ) → Memᴰ w (onward (network_of s joins) 2 (span 0 n) r) → row_to s f w.target w.rides ≡ way_row p r w
  unfolding onward
  two-rows p r w i =
      let N = network_of s joins in
      let S = span 0 n in
      let (l, j, i₁) = concat_map-mem (λ l. map (ride_then l) (onward N 1 S l)) (joined_rides N S r) i in
      let (v, k, e) = Memᴰ.of_map (ride_then l) (onward N 1 S l) i₁ in
      let (l', j', i₂) = concat_map-mem (λ l. map (ride_then l) (onward N 0 S l)) (joined_rides N S l) k in
      let (v', k', e') = Memᴰ.of_map (ride_then l') (onward N 0 S l') i₂ in
      subst (λ (u : Way ℕ). row_to s f u.target u.rides ≡ way_row p r u) (ap (ride_then l) e' ∙ e) refl

module _ (s : Sheet) (joins : Joins) (n : ℕ) where
  threes : First ℕ → List Row
  threes f = map (row_by s) (concat_map (λ k. map (route_of f) (onward (network_of s joins) k (span 0 n) f.ride)) (2 ∷ []))

  three-rows : (i o k : ℕ) → threes (first_ride o i k) ≡ first_rows_of s joins 2 n (first_of s i o k) i k
  unfolding first_rows_of threes
  three-rows i o k =
      let N = network_of s joins in
      let W = onward N 2 (span 0 n) (leg i k) in
      let F = first_of s i o k in
      ap (map (row_by s)) (append-nil (map (route_of (first_ride o i k)) W)) ∙ map-map (row_by s) (route_of (first_ride o i k)) W
      ∙ map-agree (λ w. row_to s F w.target w.rides) (way_row s joins n F (leg 0 0) (leg i k)) W (two-rows s joins n F (leg 0 0) (leg i k))
      ∙ sym (rows-of-ways s joins n F 2 (leg 0 0) (leg i k))

  pub threes-by-loops : three_rows s joins n ≡ pass_rows s joins 2 n
  unfolding three_rows pass pass_rows threes
  threes-by-loops =
      map-concat_map (row_by s) (λ f. concat_map (λ k. map (route_of f) (onward (network_of s joins) k (span 0 n) f.ride)) (2 ∷ []))
      (first_rides (network_of s joins) (span 0 n))
      ∙ concat_map-cong threes (λ f. first_rows_of s joins 2 n (first_at s f) f.ride.b f.ride.a) (λ f. three-rows f.ride.b f.o f.ride.a)
      (first_rides (network_of s joins) (span 0 n))

-- ---- by depth

pub rows-up-to-one : RowsUpToOne
unfolding route_rows rows
rows-up-to-one s joins depth n h =
    up-to-one (network_of s joins) depth (span 0 n) (direct_by s) (change_by s) (row_by s) h (λ f k. refl) (λ f l k. refl)

none_at_all : {A B : Type 0} (xs : List B) → concat_map {A = A} (λ (x : B). []) xs ≡ []
none_at_all [] = refl
none_at_all (x ∷ xs) = none_at_all xs

none_passed : (N : Network ℕ) (S : List ℕ) → pass N [] S ≡ []
unfolding pass
none_passed N S = none_at_all (first_rides N S)

one-passed : (N : Network ℕ) (S : List ℕ) → routes N 1 S ≡ pass N (0 ∷ 1 ∷ []) S
unfolding routes
one-passed N S = ap (λ (r : List (Route ℕ)). pass N (0 ∷ 1 ∷ []) S ++ r) (none_passed N S) ∙ append-nil (pass N (0 ∷ 1 ∷ []) S)

up-to-two : (s : Sheet) (joins : Joins) (n : ℕ) → map (row_by s) (pass (network_of s joins) (0 ∷ 1 ∷ []) (span 0 n)) ≡ rows s joins 1 n
unfolding route_rows
up-to-two s joins n = ap (map (row_by s)) (sym (one-passed (network_of s joins) (span 0 n))) ∙ rows-up-to-one s joins 1 n (omega arith)

pub rows-three-last : RowsThreeLast
unfolding route_rows routes three_rows
rows-three-last s joins depth n h =
    let N = network_of s joins in
    let S = span 0 n in
    rw (le-leb 0 depth (omega arith), le-leb 1 depth (omega arith), le-leb 2 depth h)
    (map-append (row_by s) (pass N (0 ∷ 1 ∷ []) S) (pass N (2 ∷ []) S)
    ∙ ap (λ (rs : List Row). rs ++ map (row_by s) (pass N (2 ∷ []) S)) (up-to-two s joins n))
