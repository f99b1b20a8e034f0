-- The tests decide whether two journeys are one, and whether they have the same figures.
use mathlib.Core.Path.{◌≡◌, refl}
use mathlib.Core.Bool.{Bool, true, false, ◌&&◌, beq, false≢true}
use Prim.Native.Nat.{ℕ}
use lib.Dec.{eqb}
use borrow.Author.Tests.{eqb-true, eq-eqb}
use Rattle.laws.proofs.Bools.{and-true-left, and-true-right, and-true}
use Rattle.profile.specs.declared.Ride.{Ride}
use Rattle.profile.specs.declared.Journey.{Journey}
use Rattle.listing.specs.Same.{same_ride, same_figures, same_journey, SameIs}

bool_is : (a b : Bool) → beq a b ≡ true → a ≡ b
bool_is true true e = refl
bool_is true false e = absurd (false≢true e)
bool_is false true e = absurd (false≢true e)
bool_is false false e = refl

bool_same : (a : Bool) → beq a a ≡ true
bool_same true = refl
bool_same false = refl

-- an equation in front of the rest
head : (m n : ℕ) (r : Bool) → (eqb m n && r) ≡ true → m ≡ n
head m n r e = eqb-true m n (and-true-left (eqb m n) r e)

same : (m : ℕ) (r : Bool) → r ≡ true → (eqb m m && r) ≡ true
same m r e = and-true (eqb m m) r (eq-eqb m m refl) e

pub ride-is : (a b : Ride) → same_ride a b ≡ true → a ≡ b
unfolding same_ride
ride-is a b e =
    let e₁ = and-true-right (eqb a.trip b.trip) _ e in
    let e₂ = and-true-right (eqb a.day b.day) _ e₁ in
    let e₃ = and-true-right (eqb a.from b.from) _ e₂ in
    let e₄ = and-true-right (eqb a.to b.to) _ e₃ in
    let e₅ = and-true-right (eqb a.departure b.departure) _ e₄ in
    let e₆ = and-true-right (eqb a.arrival b.arrival) _ e₅ in
    λ i. record {
      trip = head a.trip b.trip _ e i;
      day = head a.day b.day _ e₁ i;
      from = head a.from b.from _ e₂ i;
      to = head a.to b.to _ e₃ i;
      departure = head a.departure b.departure _ e₄ i;
      arrival = head a.arrival b.arrival _ e₅ i;
      board_request = bool_is a.board_request b.board_request
          (and-true-left (beq a.board_request b.board_request) (beq a.alight_request b.alight_request) e₆) i;
      alight_request = bool_is a.alight_request b.alight_request
          (and-true-right (beq a.board_request b.board_request) (beq a.alight_request b.alight_request) e₆) i;
    }

ride-same : (a : Ride) → same_ride a a ≡ true
unfolding same_ride
ride-same a =
    same a.trip _ (same a.day _ (same a.from _ (same a.to _ (same a.departure _ (same a.arrival _
    (and-true (beq a.board_request a.board_request) (beq a.alight_request a.alight_request) (bool_same a.board_request)
    (bool_same a.alight_request)))))))

-- the figures by themselves
pub record FiguresSame (a b : Journey) : Type 0 where
  pub leave : a.leave ≡ b.leave
  pub arrival : a.arrival ≡ b.arrival
  pub rides : a.rides ≡ b.rides
  pub walk : a.walk ≡ b.walk

pub figures-is : (a b : Journey) → same_figures a b ≡ true → FiguresSame a b
unfolding same_figures
figures-is a b e =
    let e₁ = and-true-right (eqb a.leave b.leave) _ e in
    let e₂ = and-true-right (eqb a.arrival b.arrival) _ e₁ in
    record {
      leave = head a.leave b.leave _ e;
      arrival = head a.arrival b.arrival _ e₁;
      rides = head a.rides b.rides (eqb a.walk b.walk) e₂;
      walk = eqb-true a.walk b.walk (and-true-right (eqb a.rides b.rides) (eqb a.walk b.walk) e₂);
    }

pub figures-same : (a : Journey) → same_figures a a ≡ true
unfolding same_figures
figures-same a = same a.leave _ (same a.arrival _ (same a.rides (eqb a.walk a.walk) (eq-eqb a.walk a.walk refl)))

pub same-is : SameIs
unfolding same_journey
same-is a b = (is, whole)
  where
    is : same_journey a b ≡ true → a ≡ b
    is e =
        let e₁ = and-true-right (eqb a.leave b.leave) _ e in
        let e₂ = and-true-right (eqb a.arrival b.arrival) _ e₁ in
        let e₃ = and-true-right (eqb a.rides b.rides) _ e₂ in
        let e₄ = and-true-right (eqb a.walk b.walk) _ e₃ in
        let e₅ = and-true-right (eqb a.origin b.origin) _ e₄ in
        let e₆ = and-true-right (eqb a.target b.target) _ e₅ in
        let e₇ = and-true-right (same_ride a.first b.first) _ e₆ in
        λ i. record {
          leave = head a.leave b.leave _ e i;
          arrival = head a.arrival b.arrival _ e₁ i;
          rides = head a.rides b.rides _ e₂ i;
          walk = head a.walk b.walk _ e₃ i;
          origin = head a.origin b.origin _ e₄ i;
          target = head a.target b.target _ e₅ i;
          first = ride-is a.first b.first (and-true-left (same_ride a.first b.first) _ e₆) i;
          middle = ride-is a.middle b.middle (and-true-left (same_ride a.middle b.middle) (same_ride a.last b.last) e₇) i;
          last = ride-is a.last b.last (and-true-right (same_ride a.middle b.middle) (same_ride a.last b.last) e₇) i;
        }

    whole : same_journey a a ≡ true
    whole =
        same a.leave _ (same a.arrival _ (same a.rides _ (same a.walk _ (same a.origin _ (same a.target _
        (and-true (same_ride a.first a.first) _ (ride-same a.first)
        (and-true (same_ride a.middle a.middle) (same_ride a.last a.last) (ride-same a.middle) (ride-same a.last))))))))
