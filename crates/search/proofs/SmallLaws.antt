-- Every row that is offered has rides, walk, origin and target below 256, so that its journey holds them as they are.
use mathlib.Core.Path.{subst}
use mathlib.Core.Logic.{◌⊎◌, inl, inr}
use mathlib.Core.List.Memᴰ
use mathlib.Core.List.{List, [], ◌∷◌, Memᴰ}
use Prim.Native.Nat.{ℕ, ◌<◌}
use native.Mathlib.Omega.{arith}
use Rattle.laws.specs.Lists.{span}
use Rattle.ways.specs.Rides.{Leg}
use Rattle.ways.specs.Routes.{Route, allowed, pass, routes}
use Rattle.ways.proofs.RideLaws.{listed_in}
use Rattle.ways.proofs.RouteLaws.{Passed, pass-mem}
use Rattle.profile.specs.Found.{Row}
use Rattle.profile.specs.Journeys.{row_of}
use Rattle.search_input.specs.declared.FirstRide.{FirstRide}
use Rattle.rides.specs.Rows.{Sheet, Joins, first_of, first_at, direct_row, change_row, three_row, network_of}
use Rattle.rides.specs.Routes.{on_row, row_to, row_by, route_rows}
use Rattle.rides.proofs.AgreeLaws.{origin-below, place-below}
use Rattle.rides.proofs.RouteAgree.{way-ends}
use Rattle.kept_journeys.specs.Kept.{Small}

abbrev pub AllSmall : List Row → Type 0
AllSmall rs = (r : Row) → Memᴰ r rs → Small r

module _ (s : Sheet) (joins : Joins) (depth n : ℕ) (walks : (o : ℕ) → o < 4 → s.origin_walk o < 256) where
  module _ (f : FirstRide) (x : ℕ) (walk : f.walk < 256) (origin : f.origin < 4) (target : x < 4) where
    on-small : (p r : Leg ℕ) (ls : List (Leg ℕ)) → Small (on_row s f x p r ls)
    unfolding three_row row_of
    on-small p r [] = record { rides = omega arith; walk = walk; origin = omega arith; target = omega arith }
    on-small p r (l ∷ ls) = on-small r l ls

    to-small : (ls : List (Leg ℕ)) → Small (row_to s f x ls)
    unfolding direct_row change_row row_of
    to-small [] = record { rides = omega arith; walk = walk; origin = omega arith; target = omega arith }
    to-small (l ∷ []) = record { rides = omega arith; walk = walk; origin = omega arith; target = omega arith }
    to-small (p ∷ r ∷ ls) = on-small p r ls

  passed-small : (ns : List ℕ) (r : Route ℕ) → Passed (network_of s joins) (span 0 n) ns r → Small (row_by s r)
  unfolding first_of
  passed-small ns r w =
      let f = r.first in
      let o = origin-below s joins f.ride.b f.o w.origin in
      let (x, y) = listed_in (network_of s joins) (span 0 n) f.ride w.ride in
      to-small (first_at s f) r.way.target (walks f.o o) o
      (way-ends s joins n w.n f.ride r.way (place-below n f.ride.a y) w.on).1 r.way.rides

  pub rows-small : AllSmall (route_rows s joins depth n)
  unfolding route_rows routes
  rows-small o m =
      let N = network_of s joins in
      let S = span 0 n in
      let (r, i, e) = Memᴰ.of_map (row_by s) (routes N depth S) m in
      subst Small e (go r (Memᴰ.append_cases (pass N (allowed depth (0 ∷ 1 ∷ [])) S) i))
    where
      go : (r : Route ℕ) → Memᴰ r (pass (network_of s joins) (allowed depth (0 ∷ 1 ∷ [])) (span 0 n))
          ⊎ Memᴰ r (pass (network_of s joins) (allowed depth (2 ∷ [])) (span 0 n)) → Small (row_by s r)
      go r (inl i) = passed-small (allowed depth (0 ∷ 1 ∷ [])) r (pass-mem (network_of s joins) (span 0 n) (allowed depth (0 ∷ 1 ∷ [])) r i)
      go r (inr i) = passed-small (allowed depth (2 ∷ [])) r (pass-mem (network_of s joins) (span 0 n) (allowed depth (2 ∷ [])) r i)
