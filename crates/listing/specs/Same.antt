-- Whether two journeys are one, part by part, or have the same figures; and that the tests decide it.
use Rattle.std.specs.Prelude.{◌≡◌, Bool, true, ◌&&◌, eqb}
use mathlib.Core.Bool.{beq}
use Rattle.profile.specs.declared.Ride.{Ride}
use Rattle.profile.specs.declared.Journey.{Journey}

unfoldable pub same_ride : Ride → Ride → Bool
same_ride a b =
    eqb a.trip b.trip
    && (eqb a.day b.day
    && (eqb a.from b.from
    && (eqb a.to b.to
    && (eqb a.departure b.departure
    && (eqb a.arrival b.arrival
    && (beq a.board_request b.board_request && beq a.alight_request b.alight_request))))))

-- leave, arrival, rides and walk
unfoldable pub same_figures : Journey → Journey → Bool
same_figures a b = eqb a.leave b.leave && (eqb a.arrival b.arrival && (eqb a.rides b.rides && eqb a.walk b.walk))

-- every part
unfoldable pub same_journey : Journey → Journey → Bool
same_journey a b =
    eqb a.leave b.leave
    && (eqb a.arrival b.arrival
    && (eqb a.rides b.rides
    && (eqb a.walk b.walk
    && (eqb a.origin b.origin
    && (eqb a.target b.target
    && (same_ride a.first b.first
    && (same_ride a.middle b.middle && same_ride a.last b.last)))))))

-- ---- what is claimed

abbrev pub SameIs : Type 0
SameIs = (a b : Journey) → (same_journey a b ≡ true → a ≡ b) × (same_journey a a ≡ true)
