-- The causes of a connection by their parts, and the journey that is judged.
use mathlib.Core.Path.{◌≡◌, refl, sym, ap, subst}
use mathlib.Core.Logic.{◌⊎◌, inl, inr}
use mathlib.Core.Bool.{Bool, true, false, not}
use mathlib.Core.List.{List, ◌++◌}
use Prim.Native.Nat.{ℕ, ◌+◌, ◌-◌, ◌*◌, ◌≤◌}
use native.Mathlib.Omega.{arith}
use lib.Dec.{eqb, leb}
use lib.ListN.{take, get_or}
use borrow.Author.Tests.{le-leb, leb-true, le-ltb, ltb-false, eqb-true, eqb-false, not-false}
use Rattle.laws.proofs.Bools.{and-true, and-true-left, and-true-right}
use Rattle.calls.specs.declared.Call.{Call}
use Rattle.profile.specs.declared.Journey.{Journey}
use Rattle.offers.specs.Offers.{ride_of, direct_of, change_of, three_of}
use Rattle.load.specs.declared.Load.{Load}
use Rattle.search.specs.Timetable.{timetable_of}
use Rattle.connection.specs.declared.Connection.{Connection}
use Rattle.connection.specs.declared.Cause.{Cause}
use Rattle.connection.specs.declared.FoundLeg.{FoundLeg}
use Rattle.connection.specs.Tests.{asking}
use Rattle.connection.specs.Find.{boards as boards_at, alights as alights_at, leg_at, find_leg, way_of}
use Rattle.connection.specs.Legs.{ride_right, ride_tests, leg_tests}
use Rattle.connection.specs.Ends.{count_tests}
use Rattle.verdict.specs.Verdicts.{ride_found, last_leg, middle_ride, last_ride, journey_on, ends_asked, changes_asked, causes_by, way_in}
use Rattle.verdict.specs.Verdicts.{journey_in, causes}
use Rattle.verdicts.specs.Claims.{AllFail}
use Rattle.verdicts.proofs.FailLaws.{fails-left, fails-right, fails_both, fails-asked, fails-asking}
use Rattle.verdicts.proofs.JoinLaws.{asked, changes}

pub right_is : (n : ℕ) → 1 ≤ n → n ≤ 3 → ride_right n ≡ true
unfolding ride_right
right_is n a b = and-true (leb 1 n) (leb n 3) (le-leb 1 n a) (le-leb n 3 b)

pub is_right : (n : ℕ) → ride_right n ≡ true → (n ≡ 1) ⊎ ((n ≡ 2) ⊎ (n ≡ 3))
unfolding ride_right
is_right n e = go (eqb n 1) (eqb n 2) refl refl
  where
    low : 1 ≤ n
    low = leb-true 1 n (and-true-left (leb 1 n) (leb n 3) e)

    high : n ≤ 3
    high = leb-true n 3 (and-true-right (leb 1 n) (leb n 3) e)

    go : (a b : Bool) → eqb n 1 ≡ a → eqb n 2 ≡ b → (n ≡ 1) ⊎ ((n ≡ 2) ⊎ (n ≡ 3))
    go true b p q = inl (eqb-true n 1 p)
    go false true p q = inr (inl (eqb-true n 2 q))
    go false false p q =
        let x = eqb-false n 1 p in
        let y = eqb-false n 2 q in
        inr (inr (omega (arith, low, high)))

module _ (l : Load) (c : Connection) where
  abbrev pub table : List Call
  table = take l.call_count l.calls

  abbrev pub leg : ℕ → FoundLeg
  leg i = find_leg table (leg_at c.legs i)

  abbrev pub boards : ℕ → Call
  boards i = boards_at (leg i)

  abbrev pub alights : ℕ → Call
  alights i = alights_at (leg i)

  -- ---- the journey judged, as one of n rides

  abbrev judged_as : ℕ → Journey
  judged_as n = record {
    leave = (boards_at (way_in l c).first).departure - get_or l.settings.origin_walks c.origin 0 * 60;
    arrival = (alights_at (last_leg n (way_in l c))).arrival + get_or l.settings.target_walks c.target 0 * 60;
    rides = n;
    walk = get_or l.settings.origin_walks c.origin 0;
    origin = c.origin;
    target = c.target;
    first = ride_found (way_in l c).first;
    middle = middle_ride n (way_in l c);
    last = last_ride n (way_in l c);
  }

  pub journey-1 : c.rides ≡ 1 → journey_in l c ≡ direct_of (timetable_of l) (ride_of (boards 0) (alights 0)) c.origin c.target
  unfolding journey_on way_of ride_found last_leg middle_ride last_ride timetable_of
  journey-1 e = λ i. judged_as (e i)

  pub journey-2 : c.rides ≡ 2 → journey_in l c ≡ change_of (timetable_of l) (ride_of (boards 0) (alights 0))
      (ride_of (boards 1) (alights 1)) c.origin c.target
  unfolding journey_on way_of ride_found last_leg middle_ride last_ride timetable_of
  journey-2 e = λ i. judged_as (e i)

  pub journey-3 : c.rides ≡ 3
      → journey_in l c ≡ three_of (timetable_of l) (ride_of (boards 0) (alights 0)) (ride_of (boards 1) (alights 1))
      (ride_of (boards 2) (alights 2)) c.origin c.target
  unfolding journey_on way_of ride_found last_leg middle_ride last_ride timetable_of
  journey-3 e = λ i. judged_as (e i)

  -- ---- the parts of the causes

  abbrev pub legs₀ : List (Bool × Cause)
  legs₀ = leg_tests 0 (leg_at c.legs 0) (leg 0)

  abbrev pub legs₁ : List (Bool × Cause)
  legs₁ = leg_tests 1 (leg_at c.legs 1) (leg 1)

  abbrev pub legs₂ : List (Bool × Cause)
  legs₂ = leg_tests 2 (leg_at c.legs 2) (leg 2)

  abbrev legs₊ : List (Bool × Cause)
  legs₊ = asking (leb 2 c.rides) legs₁ ++ asking (leb 3 c.rides) legs₂

  abbrev asked_legs : List (Bool × Cause)
  asked_legs = legs₀ ++ legs₊

  abbrev asked_ends : List (Bool × Cause)
  asked_ends = ends_asked l.settings l.stops c (way_in l c)

  abbrev asked_count : List (Bool × Cause)
  asked_count = count_tests c.rides l.settings.max_transfers

  abbrev first-change : List (Bool × Cause)
  first-change = changes l 0 (boards 0) (alights 0) (boards 1)

  abbrev second-change : List (Bool × Cause)
  second-change = changes l 1 (boards 1) (alights 1) (boards 2)

  abbrev asked_changes : List (Bool × Cause)
  asked_changes = asking (leb 2 c.rides) first-change ++ asking (leb 3 c.rides) second-change

  -- what none of the tests holds against: as their parts; `last` is the last leg's number
  pub record Clear (last : ℕ) : Type 0 where
    pub leg-0 : AllFail legs₀
    pub leg-1 : 2 ≤ c.rides → AllFail legs₁
    pub leg-2 : 3 ≤ c.rides → AllFail legs₂
    pub ends : AllFail (asked l (boards 0) (alights last) c.origin c.target)
    pub count : c.rides ≤ l.settings.max_transfers + 1
    pub change-0 : 2 ≤ c.rides → AllFail (changes l 0 (boards 0) (alights 0) (boards 1))
    pub change-1 : 3 ≤ c.rides → AllFail (changes l 1 (boards 1) (alights 1) (boards 2))

  module _ (last : ℕ) (e : last_leg c.rides (way_in l c) ≡ leg last) where
    pub clear_of : AllFail (causes l c) → Clear last
    unfolding causes_by ends_asked changes_asked way_of
    clear_of f =
        let g₁ = fails-right (ride_tests c.rides) (asked_legs ++ (asked_ends ++ (asked_count ++ asked_changes))) f in
        let fl = fails-left asked_legs (asked_ends ++ (asked_count ++ asked_changes)) g₁ in
        let g₂ = fails-right asked_legs (asked_ends ++ (asked_count ++ asked_changes)) g₁ in
        let fe = fails-left asked_ends (asked_count ++ asked_changes) g₂ in
        let g₃ = fails-right asked_ends (asked_count ++ asked_changes) g₂ in
        let fc = fails-left asked_count asked_changes g₃ in
        let g₄ = fails-right asked_count asked_changes g₃ in
        let more = fails-right legs₀ legs₊ fl in
        record {
          leg-0 = fails-left legs₀ legs₊ fl;
          leg-1 = λ h. fails-asked legs₁ (le-leb 2 c.rides h)
              (fails-left (asking (leb 2 c.rides) legs₁) (asking (leb 3 c.rides) legs₂) more);
          leg-2 = λ h. fails-asked legs₂ (le-leb 3 c.rides h)
              (fails-right (asking (leb 2 c.rides) legs₁) (asking (leb 3 c.rides) legs₂) more);
          ends = subst (λ (x : FoundLeg). AllFail (asked l (boards 0) (alights_at x) c.origin c.target)) e fe;
          count = ltb-false (l.settings.max_transfers + 1) c.rides fc.0;
          change-0 = λ h. fails-asked first-change (le-leb 2 c.rides h)
              (fails-left (asking (leb 2 c.rides) first-change) (asking (leb 3 c.rides) second-change) g₄);
          change-1 = λ h. fails-asked second-change (le-leb 3 c.rides h)
              (fails-right (asking (leb 2 c.rides) first-change) (asking (leb 3 c.rides) second-change) g₄);
        }

    pub clear-all : ride_right c.rides ≡ true → Clear last → AllFail (causes l c)
    unfolding causes_by ends_asked changes_asked way_of
    clear-all r w =
        fails_both (ride_tests c.rides) (asked_legs ++ (asked_ends ++ (asked_count ++ asked_changes))) (ap not r, tt)
        (fails_both asked_legs (asked_ends ++ (asked_count ++ asked_changes))
        (fails_both legs₀ legs₊ w.leg-0
        (fails_both (asking (leb 2 c.rides) legs₁) (asking (leb 3 c.rides) legs₂)
        (fails-asking (leb 2 c.rides) legs₁ (λ q. w.leg-1 (leb-true 2 c.rides q)))
        (fails-asking (leb 3 c.rides) legs₂ (λ q. w.leg-2 (leb-true 3 c.rides q)))))
        (fails_both asked_ends (asked_count ++ asked_changes)
        (subst (λ (x : FoundLeg). AllFail (asked l (boards 0) (alights_at x) c.origin c.target)) (sym e) w.ends)
        (fails_both asked_count asked_changes (le-ltb (l.settings.max_transfers + 1) c.rides w.count, tt)
        (fails_both (asking (leb 2 c.rides) first-change) (asking (leb 3 c.rides) second-change)
        (fails-asking (leb 2 c.rides) first-change (λ q. w.change-0 (leb-true 2 c.rides q)))
        (fails-asking (leb 3 c.rides) second-change (λ q. w.change-1 (leb-true 3 c.rides q)))))))

  last-is : (k : ℕ) → c.rides ≡ k → last_leg c.rides (way_in l c) ≡ last_leg k (way_in l c)
  last-is k e = ap (λ (n : ℕ). last_leg n (way_in l c)) e

  pub last-1 : c.rides ≡ 1 → last_leg c.rides (way_in l c) ≡ leg 0
  unfolding last_leg way_of
  last-1 e = last-is 1 e

  pub last-2 : c.rides ≡ 2 → last_leg c.rides (way_in l c) ≡ leg 1
  unfolding last_leg way_of
  last-2 e = last-is 2 e

  pub last-3 : c.rides ≡ 3 → last_leg c.rides (way_in l c) ≡ leg 2
  unfolding last_leg way_of
  last-3 e = last-is 3 e

  -- there are one to three rides
  pub right_of : AllFail (causes l c) → ride_right c.rides ≡ true
  unfolding causes_by
  right_of f = not-false _ f.0
