-- Sheets that agree give the same rows, by depth.
use mathlib.Core.Path.{◌≡◌, sym, ap, ◌∙◌}
use mathlib.Core.Logic.{◌⊎◌, inl, inr}
use mathlib.Core.List.Memᴰ
use mathlib.Core.List.{List, [], ◌∷◌, map, map-id, Memᴰ}
use Prim.Native.Nat.{ℕ, zero, suc, ◌+◌, ◌-◌, ◌*◌, ◌≤◌, ◌<◌}
use native.Mathlib.Omega.{arith}
use Rattle.laws.specs.Lists.{span}
use Rattle.laws.proofs.Flat.{map-agree}
use Rattle.laws.proofs.Folds.{concat_map-mem}
use Rattle.ways.specs.Rides.{Leg, joined_rides}
use Rattle.ways.specs.Images.{Images}
use Rattle.ways.specs.Routes.{Way, Route, here, ride_then, allowed, onward, pass, routes, route_by}
use Rattle.ways.proofs.RideLaws.{joined-mem, listed_in}
use Rattle.ways.proofs.RouteLaws.{Passed, pass-mem, routes-of-images}
use Rattle.profile.specs.Journeys.{row, row_of}
use Rattle.search_input.specs.Feed.{leave_of, arrival_of}
use Rattle.rides.specs.Rows.{Sheet, Joins, first_of, direct_row, change_row, three_row, network_of}
use Rattle.rides.specs.Reach.{end_of}
use Rattle.rides.specs.Routes.{on_row, row_to, row_by, route_rows}
use Rattle.rides.specs.Agree.{Agree, RouteRowsAgree}
use Rattle.rides.proofs.AgreeLaws.{origin-below, target_below, place-below, same-network, rows_agree}
use Rattle.rides.proofs.RouteLaws.{rows-up-to-one}

module _ (s : Sheet) (joins : Joins) (n : ℕ) where
  -- a way on ends at a place, at a target of its stop
  pub way-ends : (k : ℕ) (r : Leg ℕ) (w : Way ℕ) → r.a < n → Memᴰ w (onward (network_of s joins) k (span 0 n) r)
      → (end_of r.a w.rides < n) × (w.target < 4)
  unfolding onward
  way-ends zero r w h m =
      let (x, i, e) = Memᴰ.of_map here ((network_of s joins).targets r.a) m in
      rw (← e) (h, target_below s joins r.a x i)
  way-ends (suc k) r w h m =
      let N = network_of s joins in
      let (l, i, m₁) = concat_map-mem (λ l. map (ride_then l) (onward N k (span 0 n) l)) (joined_rides N (span 0 n) r) m in
      let (v, j, e) = Memᴰ.of_map (ride_then l) (onward N k (span 0 n) l) m₁ in
      rw (← e) (way-ends k l v (place-below n l.a (listed_in N (span 0 n) l (joined-mem N (span 0 n) r l i).0).1) j)

module _ (s t : Sheet) (joins joins' : Joins) (depth n : ℕ) (a : Agree s t joins joins' depth n) where
  module _ (i o k x : ℕ) (hi : i < n) (ho : o < 4) (hx : x < 4) where
    on_same : (p r : Leg ℕ) (ls : List (Leg ℕ)) → end_of r.a ls < n
        → on_row s (first_of s i o k) x p r ls ≡ on_row t (first_of t i o k) x p r ls
    unfolding three_row row_of first_of leave_of arrival_of
    on_same p r [] h =
        λ q. row (a.departure i hi q - a.origin_walk o ho q * 60) (a.arrival r.a h q + a.target_walk x hx q * 60) 3
        (a.origin_walk o ho q) o x i k r.b r.a p.b p.a
    on_same p r (l ∷ ls) h = on_same r l ls h

    to_same : (ls : List (Leg ℕ)) → end_of k ls < n → row_to s (first_of s i o k) x ls ≡ row_to t (first_of t i o k) x ls
    unfolding direct_row change_row row_of first_of leave_of arrival_of
    to_same [] h =
        λ q. row (a.departure i hi q - a.origin_walk o ho q * 60) (a.arrival k h q + a.target_walk x hx q * 60) 1
        (a.origin_walk o ho q) o x i k 0 0 0 0
    to_same (l ∷ []) h =
        λ q. row (a.departure i hi q - a.origin_walk o ho q * 60) (a.arrival l.a h q + a.target_walk x hx q * 60) 2
        (a.origin_walk o ho q) o x i k l.b l.a 0 0
    to_same (p ∷ r ∷ ls) h = on_same p r ls h

  passed-same : (ns : List ℕ) (r : Route ℕ) → Passed (network_of s joins) (span 0 n) ns r → row_by s r ≡ row_by t r
  passed-same ns r w =
      let f = r.first in
      let (x, y) = listed_in (network_of s joins) (span 0 n) f.ride w.ride in
      let (e, k) = way-ends s joins n w.n f.ride r.way (place-below n f.ride.a y) w.on in
      to_same f.ride.b f.o f.ride.a r.way.target (place-below n f.ride.b x) (origin-below s joins f.ride.b f.o w.origin) k r.way.rides e

  route-same : (r : Route ℕ) → Memᴰ r (routes (network_of s joins) depth (span 0 n)) → row_by s r ≡ row_by t r
  unfolding routes
  route-same r m = go (Memᴰ.append_cases (pass (network_of s joins) (allowed depth (0 ∷ 1 ∷ [])) (span 0 n)) m)
    where
      go : Memᴰ r (pass (network_of s joins) (allowed depth (0 ∷ 1 ∷ [])) (span 0 n))
          ⊎ Memᴰ r (pass (network_of s joins) (allowed depth (2 ∷ [])) (span 0 n)) → row_by s r ≡ row_by t r
      go (inl i) = passed-same (allowed depth (0 ∷ 1 ∷ [])) r (pass-mem (network_of s joins) (span 0 n) (allowed depth (0 ∷ 1 ∷ [])) r i)
      go (inr i) = passed-same (allowed depth (2 ∷ [])) r (pass-mem (network_of s joins) (span 0 n) (allowed depth (2 ∷ [])) r i)

same_route : (r : Route ℕ) → route_by (λ (i : ℕ). i) r ≡ r
same_route r = λ q. record { first = r.first; way = record { rides = map-id r.way.rides q; target = r.way.target } }

same-routes : (rs : List (Route ℕ)) → map (route_by (λ (i : ℕ). i)) rs ≡ rs
same-routes rs = map-agree (route_by (λ (i : ℕ). i)) (λ r. r) rs (λ r m. same_route r) ∙ map-id rs

module _ (s t : Sheet) (joins joins' : Joins) (depth n : ℕ) (a : Agree s t joins joins' depth n) where
  -- with a change, the sheets join alike
  same-joins : 1 ≤ depth → Images (network_of s joins) (network_of t joins') (λ i. i) 1 (span 0 n)
  unfolding network_of
  same-joins h =
      let w = same-network s t joins joins' depth n a in
      record {
        same = w.same;
        board = w.board;
        alight = w.alight;
        origins = w.origins;
        targets = w.targets;
        joins = λ one i k j mi mk mj. sym (a.joined h i 0 k j (place-below n i mi) (omega arith) (place-below n k mk) (place-below n j mj));
      }

  agree_on : 1 ≤ depth → route_rows s joins depth n ≡ route_rows t joins' depth n
  unfolding route_rows
  agree_on h =
      let N = network_of s joins in
      let M = network_of t joins' in
      let S = span 0 n in
      let e : routes M depth S ≡ routes N depth S =
      ap (routes M depth) (sym (map-id S)) ∙ routes-of-images N M (λ i. i) depth S (same-joins h) ∙ same-routes (routes N depth S) in
      map-agree (row_by s) (row_by t) (routes N depth S) (route-same s t joins joins' depth n a) ∙ ap (map (row_by t)) (sym e)

pub route-rows-agree : RouteRowsAgree
route-rows-agree s t joins joins' zero n a =
    rows-up-to-one s joins 0 n (omega arith) ∙ rows_agree s t joins joins' 0 n a ∙ sym (rows-up-to-one t joins' 0 n (omega arith))
route-rows-agree s t joins joins' (suc d) n a = agree_on s t joins joins' (suc d) n a (omega arith)
