-- What is offered is what is admitted, and no offer leaves after it arrives.
use mathlib.Core.Path.{◌≡◌, refl, sym, ap, subst, ◌∙◌}
use mathlib.Core.Logic.{inl, inr}
use mathlib.Core.List.Memᴰ
use mathlib.Core.List.{Memᴰ}
use Prim.Native.Nat.{zero, suc, ◌≤◌}
use native.Mathlib.Omega.{arith}
use Rattle.ways.specs.Rides.{leg, first_ride}
use Rattle.ways.specs.Routes.{Way, Route, here, ride_then, route_of}
use Rattle.calls.specs.declared.Call.{Call}
use Rattle.profile.specs.declared.Journey.{Journey}
use Rattle.offers.specs.Offers.{Timetable, ride_of, journey_by, routes_of, offers}
use Rattle.offers.specs.Order.{Timed}
use Rattle.offers.specs.Admitted.{Admitted, Clear, InTime, OffersAdmitted, OffersAhead}
use Rattle.offers.proofs.FoundLaws.{ride-ahead}
pub use Rattle.offers.proofs.FoundLaws.{clear-rising, rides-found, found-rides, starts-set, set-starts, ends_set, set-ends}
use Rattle.offers.specs.Routes.{AdmittedRoute}
use Rattle.offers.proofs.RouteLaws.{routes-admitted}

module _ (t : Timetable) (j : Journey) where
  -- the journey of an admitted route
  by-route : (r : Route Call) → AdmittedRoute t r → j ≡ journey_by t r → Admitted t j
  by-route r (zero, h, x) e =
      let (k, en, q) = x.on in
      inl (record {
        b = r.first.ride.b;
        a = r.first.ride.a;
        o = r.first.o;
        k = k;
        ride = x.ride;
        starts = x.starts;
        ends = en;
        is = e
            ∙ ap (λ (w : Way Call). journey_by t (route_of r.first w)) q;
      })
  by-route r (suc zero, h, x) e =
      let (l, v, last, joined, (k, en, q), p) = x.on in
      inr (inl (record {
        b = r.first.ride.b;
        a = r.first.ride.a;
        c = l.b;
        d = l.a;
        o = r.first.o;
        k = k;
        may = x.may;
        first = x.ride;
        last = last;
        starts = x.starts;
        ends = en;
        joined = joined;
        is = e ∙ ap (λ (w : Way Call). journey_by t (route_of r.first w)) (p ∙ ap (ride_then l) q);
      }))
  by-route r (suc (suc zero), h, x) e =
      let (m, v, middle, joined, (l, u, last, joins, (k, en, q), p), s) = x.on in
      inr (inr (record {
        b = r.first.ride.b;
        a = r.first.ride.a;
        c = m.b;
        d = m.a;
        e = l.b;
        g = l.a;
        o = r.first.o;
        k = k;
        may = x.may;
        first = x.ride;
        middle = middle;
        last = last;
        starts = x.starts;
        ends = en;
        joins_middle = joined;
        joins_last = joins;
        is = e ∙ ap (λ (w : Way Call). journey_by t (route_of r.first w)) (s ∙ ap (ride_then m) (p ∙ ap (ride_then l) q));
      }))
  by-route r (suc (suc (suc n)), h, x) e = absurd (omega arith)

  -- the route of an admitted journey
  to-route : Admitted t j → (r : Route Call) × AdmittedRoute t r × (journey_by t r ≡ j)
  to-route (inl w) =
      let r = route_of (first_ride w.o w.b w.a) (here w.k) in
      (r, (0, omega arith, record { may = omega arith; ride = w.ride; starts = w.starts; on = (w.k, w.ends, refl) }), sym w.is)
  to-route (inr (inl w)) =
      let l = leg w.c w.d in
      let r = route_of (first_ride w.o w.b w.a) (ride_then l (here w.k)) in (
        r,
        (
          1,
          omega arith,
          record {
            may = w.may;
            ride = w.first;
            starts = w.starts;
            on = (l, here w.k, w.last, w.joined, (w.k, w.ends, refl), refl);
          },
        ),
        sym w.is,
      )
  to-route (inr (inr w)) =
      let m = leg w.c w.d in
      let l = leg w.e w.g in
      let r = route_of (first_ride w.o w.b w.a) (ride_then m (ride_then l (here w.k))) in (
        r,
        (
          2,
          omega arith,
          record {
            may = w.may;
            ride = w.first;
            starts = w.starts;
            on =
                (m, ride_then l (here w.k), w.middle, w.joins_middle, (l, here w.k, w.last, w.joins_last, (w.k, w.ends, refl), refl), refl);
          },
        ),
        sym w.is,
      )

pub offers-admitted : OffersAdmitted
unfolding offers
offers-admitted t clear j = (
  λ m. let (r, i, e) = Memᴰ.of_map (journey_by t) (routes_of t) m in by-route t j r ((routes-admitted t clear r).0 i) (sym e),
  λ w. let (r, x, e) = to-route t j w in
      subst (λ (i : Journey). Memᴰ i (offers t)) e (Memᴰ.map (journey_by t) ((routes-admitted t clear r).1 x)),
)

-- ---- no offer leaves after it arrives

module _ (t : Timetable) (clear : Clear t) (timed : Timed t.calls) (join : InTime t) (j : Journey) where
  pub admitted-ahead : Admitted t j → j.leave ≤ j.arrival
  admitted-ahead (inl w) =
      let h = ride-ahead t clear w.b w.a timed w.ride in
      rw w.is (omega arith)
  admitted-ahead (inr (inl w)) =
      let h = ride-ahead t clear w.b w.a timed w.first in
      let i = ride-ahead t clear w.c w.d timed w.last in
      let g : w.a.arrival ≤ w.c.departure = join (ride_of w.b w.a) w.c w.joined in
      rw w.is (omega arith)
  admitted-ahead (inr (inr w)) =
      let h = ride-ahead t clear w.b w.a timed w.first in
      let i = ride-ahead t clear w.c w.d timed w.middle in
      let k = ride-ahead t clear w.e w.g timed w.last in
      let g : w.a.arrival ≤ w.c.departure = join (ride_of w.b w.a) w.c w.joins_middle in
      let g' : w.d.arrival ≤ w.e.departure = join (ride_of w.c w.d) w.e w.joins_last in
      rw w.is (omega arith)

pub offers-ahead : OffersAhead
offers-ahead t clear timed join j m = admitted-ahead t clear timed join j ((offers-admitted t clear j).0 m)
