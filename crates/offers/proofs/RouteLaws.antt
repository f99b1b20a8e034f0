-- Routes of a timetable: what is listed is what is admitted, no route leaves after it arrives, and up to one change they are the offers as
-- they were.
use mathlib.Core.Path.{refl, sym, ap, subst}
use mathlib.Core.Logic.{◌⊎◌, inl, inr}
use mathlib.Core.Bool.{cond}
use mathlib.Core.List.Memᴰ
use mathlib.Core.List.{List, [], ◌∷◌, ◌++◌, map, Memᴰ}
use Prim.Native.Nat.{ℕ, zero, suc, ◌≤◌}
use native.Mathlib.Omega.{arith}
use Rattle.laws.proofs.Folds.{concat_map-mem, mem-concat_map}
use Rattle.ways.specs.Rides.{Leg, joined_rides}
use Rattle.ways.proofs.RideLaws.{joined-mem, mem-joined}
use Rattle.calls.specs.declared.Call.{Call}
use Rattle.profile.specs.declared.Journey.{Journey}
use Rattle.profile.specs.Kept.{searched}
use Rattle.profile.specs.Journeys.{journey_figures}
use Rattle.offers.specs.Order.{clashes, Timed}
use Rattle.offers.specs.Offers.{Timetable, network_of, journey_by, direct_by, change_by, sorted, offers}
use Rattle.offers.specs.Admitted.{Clear, InTime}
use Rattle.offers.specs.Search.{clashing, found_by, search_of}
use Rattle.offers.proofs.OrderLaws.{accepted-any-order}
use Rattle.offers.proofs.FoundLaws.{rides-found, found-rides, ride-ahead, starts-set, set-starts, ends_set, set-ends}
use Rattle.ways.specs.Routes.{Way, Route, here, ride_then, allowed, onward, pass, routes}
use Rattle.offers.specs.Routes.{Onward, WithChanges, AdmittedRoute, arrives_at, OnwardIs, RoutesAdmitted, RoutesAhead, RoutesInAnyOrder}
use Rattle.offers.specs.Routes.{OffersUpToOne, SearchUpToOne}
use Rattle.ways.proofs.RouteLaws.{Passed, pass-mem, mem-pass, allowed-mem, mem-allowed, up-to-one}

-- ---- what leads on

onward-mem : (n : ℕ) (t : Timetable) → Clear t → (r : Leg Call) (w : Way Call) → Memᴰ w (onward (network_of t) n (sorted t) r)
    → Onward n t r w
unfolding onward network_of
onward-mem zero t e r w m = let (k, i, q) = Memᴰ.of_map here ((network_of t).targets r.a) m in (k, ends_set t r.a i, sym q)
onward-mem (suc n) t e r w m =
    let (l, i, m₁) =
    concat_map-mem (λ l. map (ride_then l) (onward (network_of t) n (sorted t) l)) (joined_rides (network_of t) (sorted t) r) m in
    let (v, j, q) = Memᴰ.of_map (ride_then l) (onward (network_of t) n (sorted t) l) m₁ in
    let (x, y) = joined-mem (network_of t) (sorted t) r l i in
    (l, v, rides-found t e l.b l.a x, y, onward-mem n t e l v j, sym q)

mem-onward : (n : ℕ) (t : Timetable) → Clear t → (r : Leg Call) (w : Way Call) → Onward n t r w
    → Memᴰ w (onward (network_of t) n (sorted t) r)
unfolding onward network_of
mem-onward zero t e r w (k, x, q) =
    subst (λ (v : Way Call). Memᴰ v (map here ((network_of t).targets r.a))) (sym q) (Memᴰ.map here (set-ends t r.a k x))
mem-onward (suc n) t e r w (l, v, x, y, z, q) =
    mem-concat_map (λ l. map (ride_then l) (onward (network_of t) n (sorted t) l))
    (mem-joined (network_of t) (sorted t) r l (found-rides t e l.b l.a x) y)
    (subst (λ (u : Way Call). Memᴰ u (map (ride_then l) (onward (network_of t) n (sorted t) l))) (sym q)
    (Memᴰ.map (ride_then l) (mem-onward n t e l v z)))

pub onward-is : OnwardIs
onward-is n t e r w = (onward-mem n t e r w, mem-onward n t e r w)

-- ---- routes

module _ (t : Timetable) (e : Clear t) (r : Route Call) where
  with-changes : (ns : List ℕ) → Passed (network_of t) (sorted t) (allowed t.max_transfers ns) r → (n : ℕ) × Memᴰ n ns × WithChanges n t r
  with-changes ns w =
      let f = r.first.ride in
      let (i, h) = allowed-mem t.max_transfers w.n ns w.number in (
        w.n,
        i,
        record {
          may = h;
          ride = rides-found t e f.b f.a w.ride;
          starts = starts-set t f.b w.origin;
          on = onward-mem w.n t e f r.way w.on;
        },
      )

  changes-with : (ns : List ℕ) (n : ℕ) → Memᴰ n ns → WithChanges n t r
      → Memᴰ r (pass (network_of t) (allowed t.max_transfers ns) (sorted t))
  changes-with ns n i x =
      let f = r.first.ride in
      mem-pass (network_of t) (sorted t) (allowed t.max_transfers ns) r
      (record {
        n = n;
        number = mem-allowed t.max_transfers n ns i x.may;
        ride = found-rides t e f.b f.a x.ride;
        origin = set-starts t f.b r.first.o x.starts;
        on = mem-onward n t e f r.way x.on;
      })

at_most : (n : ℕ) → Memᴰ n (0 ∷ 1 ∷ 2 ∷ []) → n ≤ 2
at_most n (Memᴰ.head e) = omega arith
at_most n (Memᴰ.tail (Memᴰ.head e)) = omega arith
at_most n (Memᴰ.tail (Memᴰ.tail (Memᴰ.head e))) = omega arith
at_most n (Memᴰ.tail (Memᴰ.tail (Memᴰ.tail m))) = absurd (Memᴰ.not-nil m)

-- the routes by some numbers of changes
abbrev passed : Timetable → List ℕ → List (Route Call)
passed t ns = pass (network_of t) (allowed t.max_transfers ns) (sorted t)

pub routes-admitted : RoutesAdmitted
unfolding routes
routes-admitted t e r = (λ m. go (Memᴰ.append_cases (passed t (0 ∷ 1 ∷ [])) m), back)
  where
    given : (ns : List ℕ) → Memᴰ r (passed t ns) → (n : ℕ) × Memᴰ n ns × WithChanges n t r
    given ns m = with-changes t e r ns (pass-mem (network_of t) (sorted t) (allowed t.max_transfers ns) r m)

    go : Memᴰ r (passed t (0 ∷ 1 ∷ [])) ⊎ Memᴰ r (passed t (2 ∷ [])) → AdmittedRoute t r
    go (inl m) = let (n, i, x) = given (0 ∷ 1 ∷ []) m in (n, at_most n (Memᴰ.append_left (2 ∷ []) i), x)
    go (inr m) = let (n, i, x) = given (2 ∷ []) m in (n, at_most n (Memᴰ.append_right (0 ∷ 1 ∷ []) i), x)

    back : AdmittedRoute t r → Memᴰ r (passed t (0 ∷ 1 ∷ []) ++ passed t (2 ∷ []))
    back (zero, h, x) = Memᴰ.append_left (passed t (2 ∷ [])) (changes-with t e r (0 ∷ 1 ∷ []) 0 (Memᴰ.head refl) x)
    back (suc zero, h, x) = Memᴰ.append_left (passed t (2 ∷ [])) (changes-with t e r (0 ∷ 1 ∷ []) 1 (Memᴰ.tail (Memᴰ.head refl)) x)
    back (suc (suc zero), h, x) = Memᴰ.append_right (passed t (0 ∷ 1 ∷ [])) (changes-with t e r (2 ∷ []) 2 (Memᴰ.head refl) x)
    back (suc (suc (suc n)), h, x) = absurd (omega arith)

-- ---- no route leaves after it arrives

onward-ahead : (n : ℕ) (t : Timetable) → Clear t → Timed t.calls → InTime t → (r : Leg Call) (w : Way Call) → Onward n t r w
    → r.a.arrival ≤ arrives_at r w.rides
onward-ahead zero t e timed join r w (k, x, q) = rw q (omega arith)
onward-ahead (suc n) t e timed join r w (l, v, x, y, z, q) =
    let h : r.a.arrival ≤ l.b.departure = join _ l.b y in
    let i = ride-ahead t e l.b l.a timed x in
    let g = onward-ahead n t e timed join l v z in
    rw q (omega arith)

pub routes-ahead : RoutesAhead
routes-ahead t e timed join r m =
    let (n, h, x) = (routes-admitted t e r).0 m in
    let f = r.first.ride in
    let i = ride-ahead t e f.b f.a timed x.ride in
    let g = onward-ahead n t e timed join f r.way x.on in
    omega arith

-- ---- in any order, and up to one change

pub routes-in-any-order : RoutesInAnyOrder
unfolding network_of
routes-in-any-order t ys p e = ap (routes (network_of t) t.max_transfers) (accepted-any-order t.calls ys p e)

pub offers-up-to-one : OffersUpToOne
unfolding offers
offers-up-to-one t h =
    up-to-one (network_of t) t.max_transfers (sorted t) (direct_by t) (change_by t) (journey_by t) h (λ f k. refl) (λ f l k. refl)

pub search-up-to-one : SearchUpToOne
unfolding search_of
search-up-to-one t h l few =
    ap (λ (os : List Journey). cond (clashes (sorted t)) clashing (found_by (searched journey_figures 64 3600 h l os)))
    (offers-up-to-one t few)
