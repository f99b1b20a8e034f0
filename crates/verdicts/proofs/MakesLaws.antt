-- No cause exactly if the connection makes an admitted journey, of calls with distinct keys.
use mathlib.Core.Path.{◌≡◌, refl, sym, ap, subst, ◌∙◌}
use mathlib.Core.Logic.{◌⊎◌, inl, inr}
use mathlib.Core.Bool.{true}
use Prim.Native.Nat.{ℕ}
use native.Mathlib.Omega.{arith}
use Rattle.std.specs.Prelude.{None}
use Rattle.laws.specs.Sort.{Keyed}
use Rattle.calls.specs.declared.Call.{Call}
use Rattle.profile.specs.declared.Journey.{Journey}
use Rattle.offers.specs.Order.{earlier}
use Rattle.offers.specs.Offers.{ride_of, direct_of, change_of, three_of}
use Rattle.offers.specs.Admitted.{Rides, Starts, Ends}
use Rattle.load.specs.declared.Load.{Load}
use Rattle.search.specs.Timetable.{joins_in, timetable_of}
use Rattle.connection.specs.declared.Connection.{Connection}
use Rattle.connection.specs.declared.FoundLeg.{FoundLeg}
use Rattle.connection.specs.Find.{boards as boards_at, alights as alights_at, leg_at}
use Rattle.connection.specs.Legs.{leg_tests}
use Rattle.verdict.specs.Verdicts.{journey_in, causes, cause_of}
use Rattle.verdicts.specs.Makes.{Names, ByOne, ByTwo, ByThree, Makes}
use Rattle.verdicts.specs.Claims.{AllFail}
use Rattle.verdicts.proofs.FailLaws.{free-fails, fails-free}
use Rattle.verdicts.proofs.FoundLaws.{leg-ride, ride-found, ride-free}
use Rattle.verdicts.proofs.PartLaws.{right_is, is_right, table, leg, boards, alights, journey-1, journey-2, journey-3, Clear, clear_of}
use Rattle.verdicts.proofs.PartLaws.{clear-all, last-1, last-2, last-3, right_of}
use Rattle.verdicts.proofs.JoinLaws.{asked, ends-right, right-ends, changes, joins-right, right-joins}

module _ (l : Load) (c : Connection) where
  -- ---- no cause: a journey

  pub free-makes : cause_of l c ≡ None → Makes (timetable_of l) c (journey_in l c)
  unfolding timetable_of
  free-makes e = go (is_right c.rides (right_of l c f))
    where
      f : AllFail (causes l c)
      f = free-fails (causes l c) e

      go : (c.rides ≡ 1) ⊎ ((c.rides ≡ 2) ⊎ (c.rides ≡ 3)) → Makes (timetable_of l) c (journey_in l c)
      go (inl n) =
          let w = clear_of l c 0 (last-1 l c n) f in
          let one = leg-ride (table l c) (leg_at c.legs 0) 0 w.leg-0 in
          let ends = ends-right l (boards l c 0) (alights l c 0) c.origin c.target w.ends in
          inl (record {
            rides = n;
            way = record {
              b = boards l c 0;
              a = alights l c 0;
              o = c.origin;
              k = c.target;
              ride = one.0;
              starts = ends.0;
              ends = ends.1;
              is = journey-1 l c n;
            };
            origin = refl;
            target = refl;
            first = one.1;
          })
      go (inr (inl n)) =
          let w = clear_of l c 1 (last-2 l c n) f in
          let one = leg-ride (table l c) (leg_at c.legs 0) 0 w.leg-0 in
          let two = leg-ride (table l c) (leg_at c.legs 1) 1 (w.leg-1 (omega arith)) in
          let ends = ends-right l (boards l c 0) (alights l c 1) c.origin c.target w.ends in
          inr (inl (record {
            rides = n;
            way = record {
              b = boards l c 0;
              a = alights l c 0;
              c = boards l c 1;
              d = alights l c 1;
              o = c.origin;
              k = c.target;
              may = omega (arith, w.count);
              first = one.0;
              last = two.0;
              starts = ends.0;
              ends = ends.1;
              joined = joins-right l 0 (boards l c 0) (alights l c 0) (boards l c 1) (w.change-0 (omega arith));
              is = journey-2 l c n;
            };
            origin = refl;
            target = refl;
            first = one.1;
            last = two.1;
          }))
      go (inr (inr n)) =
          let w = clear_of l c 2 (last-3 l c n) f in
          let one = leg-ride (table l c) (leg_at c.legs 0) 0 w.leg-0 in
          let two = leg-ride (table l c) (leg_at c.legs 1) 1 (w.leg-1 (omega arith)) in
          let three = leg-ride (table l c) (leg_at c.legs 2) 2 (w.leg-2 (omega arith)) in
          let ends = ends-right l (boards l c 0) (alights l c 2) c.origin c.target w.ends in
          inr (inr (record {
            rides = n;
            way = record {
              b = boards l c 0;
              a = alights l c 0;
              c = boards l c 1;
              d = alights l c 1;
              e = boards l c 2;
              g = alights l c 2;
              o = c.origin;
              k = c.target;
              may = omega (arith, w.count);
              first = one.0;
              middle = two.0;
              last = three.0;
              starts = ends.0;
              ends = ends.1;
              joins_middle = joins-right l 0 (boards l c 0) (alights l c 0) (boards l c 1) (w.change-0 (omega arith));
              joins_last = joins-right l 1 (boards l c 1) (alights l c 1) (boards l c 2) (w.change-1 (omega arith));
              is = journey-3 l c n;
            };
            origin = refl;
            target = refl;
            first = one.1;
            middle = two.1;
            last = three.1;
          }))

  -- ---- an admitted journey: no cause, and it is the one judged

  -- a ride of the calls that leg i names is found
  module _ (d : Keyed earlier (table l c)) where
    -- the test of leg i, the call where it boards, the call where it alights
    record Taken (i : ℕ) (b a : Call) : Type 0 where
      free : (k : ℕ) → AllFail (leg_tests k (leg_at c.legs i) (leg l c i))
      from : b ≡ boards l c i
      to : a ≡ alights l c i

    taken : (i : ℕ) (b a : Call) → Rides (table l c) b a → Names (leg_at c.legs i) b a → Taken i b a
    taken i b a r n =
        let e = ride-found (table l c) (leg_at c.legs i) d b a r n in
        record {
          free = ride-free (table l c) (leg_at c.legs i) d b a r n;
          from = sym (ap (λ (f : FoundLeg). boards_at f) e);
          to = sym (ap (λ (f : FoundLeg). alights_at f) e);
        }

    ends-free : {b a : Call} {o k : ℕ} (i : ℕ) → b ≡ boards l c 0 → a ≡ alights l c i → o ≡ c.origin → k ≡ c.target
        → Starts (timetable_of l) b o → Ends (timetable_of l) a k
        → AllFail (asked l (boards l c 0) (alights l c i) c.origin c.target)
    ends-free {b} {a} {o} {k} i eb ea eo ek s e = subst AllFail (λ t. asked l (eb t) (ea t) (eo t) (ek t)) (right-ends l b a o k s e)

    change-free : (i : ℕ) {b a x : Call} (p q : ℕ) → b ≡ boards l c p → a ≡ alights l c p → x ≡ boards l c q
        → joins_in l (ride_of b a) x ≡ true → AllFail (changes l i (boards l c p) (alights l c p) (boards l c q))
    change-free i {b} {a} {x} p q eb ea ex e = subst AllFail (λ t. changes l i (eb t) (ea t) (ex t)) (right-joins l i b a x e)

    -- the journey is without a cause, and is the one judged
    abbrev pub Judged : Journey → Type 0
    Judged j = (cause_of l c ≡ None) × (j ≡ journey_in l c)

    made-1 : (j : Journey) → ByOne (timetable_of l) c j → Judged j
    unfolding timetable_of
    made-1 j m =
        let w = m.way in
        let one = taken 0 w.b w.a w.ride m.first in
        let clear : Clear l c 0 = record {
          leg-0 = one.free 0;
          leg-1 = λ h. absurd (omega (arith, m.rides));
          leg-2 = λ h. absurd (omega (arith, m.rides));
          ends = ends-free 0 one.from one.to m.origin m.target w.starts w.ends;
          count = omega (arith, m.rides);
          change-0 = λ h. absurd (omega (arith, m.rides));
          change-1 = λ h. absurd (omega (arith, m.rides));
        } in (
          fails-free (causes l c) (clear-all l c 0 (last-1 l c m.rides)
              (right_is c.rides (omega (arith, m.rides)) (omega (arith, m.rides))) clear),
          w.is ∙ (λ t. direct_of (timetable_of l) (ride_of (one.from t) (one.to t)) (m.origin t) (m.target t))
              ∙ sym (journey-1 l c m.rides),
        )

    made-2 : (j : Journey) → ByTwo (timetable_of l) c j → Judged j
    unfolding timetable_of
    made-2 j m =
        let w = m.way in
        let one = taken 0 w.b w.a w.first m.first in
        let two = taken 1 w.c w.d w.last m.last in
        let clear : Clear l c 1 = record {
          leg-0 = one.free 0;
          leg-1 = λ h. two.free 1;
          leg-2 = λ h. absurd (omega (arith, m.rides));
          ends = ends-free 1 one.from two.to m.origin m.target w.starts w.ends;
          count = omega (arith, m.rides, w.may);
          change-0 = λ h. change-free 0 0 1 one.from one.to two.from w.joined;
          change-1 = λ h. absurd (omega (arith, m.rides));
        } in (
          fails-free (causes l c) (clear-all l c 1 (last-2 l c m.rides)
              (right_is c.rides (omega (arith, m.rides)) (omega (arith, m.rides))) clear),
          w.is ∙ (λ t. change_of (timetable_of l) (ride_of (one.from t) (one.to t)) (ride_of (two.from t) (two.to t)) (m.origin t)
              (m.target t)) ∙ sym (journey-2 l c m.rides),
        )

    made-3 : (j : Journey) → ByThree (timetable_of l) c j → Judged j
    unfolding timetable_of
    made-3 j m =
        let w = m.way in
        let one = taken 0 w.b w.a w.first m.first in
        let two = taken 1 w.c w.d w.middle m.middle in
        let three = taken 2 w.e w.g w.last m.last in
        let clear : Clear l c 2 = record {
          leg-0 = one.free 0;
          leg-1 = λ h. two.free 1;
          leg-2 = λ h. three.free 2;
          ends = ends-free 2 one.from three.to m.origin m.target w.starts w.ends;
          count = omega (arith, m.rides, w.may);
          change-0 = λ h. change-free 0 0 1 one.from one.to two.from w.joins_middle;
          change-1 = λ h. change-free 1 1 2 two.from two.to three.from w.joins_last;
        } in (
          fails-free (causes l c) (clear-all l c 2 (last-3 l c m.rides)
              (right_is c.rides (omega (arith, m.rides)) (omega (arith, m.rides))) clear),
          w.is
              ∙ (λ t. three_of (timetable_of l) (ride_of (one.from t) (one.to t)) (ride_of (two.from t) (two.to t))
              (ride_of (three.from t) (three.to t)) (m.origin t) (m.target t))
              ∙ sym (journey-3 l c m.rides),
        )

    pub makes-free : (j : Journey) → Makes (timetable_of l) c j → Judged j
    makes-free j (inl m) = made-1 j m
    makes-free j (inr (inl m)) = made-2 j m
    makes-free j (inr (inr m)) = made-3 j m
