-- A connection as 36 bytes, numbers big-endian.
use Rattle.std.specs.Prelude.{ℕ, List, [], ◌∷◌, drop}
use Rattle.fields.specs.Numbers.{byte_at, u16_at, u32_at}
use Rattle.connection.specs.declared.Leg.{Leg}
use Rattle.connection.specs.declared.Connection.{Connection}

-- 11 bytes of a ride: trip, day, the sequences of the calls where it boards and alights
unfoldable pub leg_of : List ℕ → Leg
leg_of b = record { trip = u16_at b 0; day = byte_at b 2; board = u32_at b 3; alight = u32_at b 7 }

-- origin, target, how many rides count, and three rides
unfoldable pub connection_of : List ℕ → Connection
connection_of b = record {
  origin = byte_at b 0;
  target = byte_at b 1;
  rides = byte_at b 2;
  legs = leg_of (drop 3 b) ∷ leg_of (drop 14 b) ∷ leg_of (drop 25 b) ∷ [];
}
