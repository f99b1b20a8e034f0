-- What is admitted, what is offered and what a search finds don't depend on the order in which the calls were taken.
use mathlib.Core.Path.{◌≡◌, refl, ap, ◌∙◌}
use mathlib.Core.Logic.{inl, inr}
use mathlib.Core.Bool.{Bool, true, false, cond}
use mathlib.Core.List.Permᴰ
use mathlib.Core.List.{List, [], ◌∷◌, map, Permᴰ}
use Prim.Native.Nat.{ℕ}
use Rattle.laws.proofs.Sort.{perm-mem}
use Rattle.laws.proofs.Flat.{map-agree}
use Rattle.ways.specs.Rides.{Leg}
use Rattle.ways.specs.Routes.{routes}
use Rattle.calls.specs.declared.Call.{Call}
use Rattle.profile.specs.declared.Ride.{Ride}
use Rattle.profile.specs.declared.Journey.{Journey}
use Rattle.profile.specs.Kept.{searched}
use Rattle.profile.specs.Journeys.{journey_figures}
use Rattle.offers.specs.Order.{earlier, clashes}
use Rattle.offers.specs.Offers.{Timetable, with_calls, network_of, ride_by, on_journey, journey_to, journey_by, sorted, offers}
use Rattle.offers.specs.Admitted.{Rides, Starts, Ends, Admitted, AdmittedInAnyOrder, OffersInAnyOrder}
use Rattle.offers.specs.Search.{Outcome, clashing, found_by, search_of, SearchInAnyOrder}
use Rattle.offers.proofs.OrderLaws.{accepted-any-order, clashes-any-order}

rides-of : {xs ys : List Call} {b a : Call} → Permᴰ xs ys → Rides xs b a → Rides ys b a
rides-of p r =
    record {
      from = perm-mem earlier p r.from;
      to = perm-mem earlier p r.to;
      run = r.run;
      later = r.later;
      board = r.board;
      alight = r.alight;
    }

starts-of : (t : Timetable) (ys : List Call) {b : Call} {o : ℕ} → Starts t b o → Starts (with_calls t ys) b o
starts-of t ys x = record { count = x.count; member = x.member; walked = x.walked }

ends_of : (t : Timetable) (ys : List Call) {a : Call} {k : ℕ} → Ends t a k → Ends (with_calls t ys) a k
ends_of t ys x = record { count = x.count; member = x.member }

other : (t : Timetable) (ys : List Call) → Permᴰ t.calls ys → (j : Journey) → Admitted t j → Admitted (with_calls t ys) j
other t ys p j (inl w) =
    inl (record {
      b = w.b;
      a = w.a;
      o = w.o;
      k = w.k;
      ride = rides-of p w.ride;
      starts = starts-of t ys w.starts;
      ends = ends_of t ys w.ends;
      is = w.is;
    })
other t ys p j (inr (inl w)) = inr (inl (record {
  b = w.b;
  a = w.a;
  c = w.c;
  d = w.d;
  o = w.o;
  k = w.k;
  may = w.may;
  first = rides-of p w.first;
  last = rides-of p w.last;
  starts = starts-of t ys w.starts;
  ends = ends_of t ys w.ends;
  joined = w.joined;
  is = w.is;
}))
other t ys p j (inr (inr w)) = inr (inr (record {
  b = w.b;
  a = w.a;
  c = w.c;
  d = w.d;
  e = w.e;
  g = w.g;
  o = w.o;
  k = w.k;
  may = w.may;
  first = rides-of p w.first;
  middle = rides-of p w.middle;
  last = rides-of p w.last;
  starts = starts-of t ys w.starts;
  ends = ends_of t ys w.ends;
  joins_middle = w.joins_middle;
  joins_last = w.joins_last;
  is = w.is;
}))

pub admitted-in-any-order : AdmittedInAnyOrder
admitted-in-any-order t ys p j = (other t ys p j, other (with_calls t ys) t.calls (Permᴰ.symm p) j)

-- a journey reads nothing of the calls but its own
module _ (t : Timetable) (ys : List Call) (f : Ride) (o k : ℕ) where
  on_same : (p r : Leg Call) (ls : List (Leg Call)) → on_journey t f o k p r ls ≡ on_journey (with_calls t ys) f o k p r ls
  on_same p r [] = refl
  on_same p r (l ∷ ls) = on_same r l ls

  to_same : (ls : List (Leg Call)) → journey_to t f o k ls ≡ journey_to (with_calls t ys) f o k ls
  to_same [] = refl
  to_same (l ∷ []) = refl
  to_same (p ∷ r ∷ ls) = on_same p r ls

pub offers-in-any-order : OffersInAnyOrder
unfolding offers network_of
offers-in-any-order t ys p e =
    ap (λ (s : List Call). map (journey_by t) (routes (network_of t) t.max_transfers s)) (accepted-any-order t.calls ys p e)
    ∙ map-agree (journey_by t) (journey_by (with_calls t ys)) (routes (network_of t) t.max_transfers (sorted (with_calls t ys)))
    (λ r m. to_same t ys (ride_by r.first.ride) r.first.o r.way.target r.way.rides)

pub search-in-any-order : SearchInAnyOrder
unfolding search_of
search-in-any-order t ys h l p = go (clashes (sorted t)) refl
  where
    by : Timetable → Outcome
    by u = found_by (searched journey_figures 64 3600 h l (offers u))

    go : (b : Bool) → clashes (sorted t) ≡ b
        → cond (clashes (sorted t)) clashing (by t) ≡ cond (clashes (sorted (with_calls t ys))) clashing (by (with_calls t ys))
    go true e = rw (← clashes-any-order t.calls ys p, e)
    go false e = rw (← clashes-any-order t.calls ys p, e, offers-in-any-order t ys p e)
