-- A connection by its three legs.
use mathlib.Core.Path.{◌≡◌}
use mathlib.Core.List.{[], ◌∷◌}
use Rattle.connection.specs.declared.Leg.{Leg}
use Rattle.timetable.specs.declared.judged.TimetableConnection.{TimetableConnection}
use Rattle.timetable.specs.Verdicts.{leg_at, connection_of}

pub connection-made : (c : TimetableConnection) {x y z : Leg} → x ≡ leg_at c 0 → y ≡ leg_at c 1 → z ≡ leg_at c 2
    → record { origin = c.origin; target = c.target; rides = c.rides; legs = x ∷ y ∷ z ∷ [] } ≡ connection_of c
unfolding connection_of
connection-made c p q r = λ i. record { origin = c.origin; target = c.target; rides = c.rides; legs = p i ∷ q i ∷ r i ∷ [] }
