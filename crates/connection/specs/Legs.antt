-- What is asked of the rides, leg by leg. "A ride boards at a boardable call and alights at a later alightable call of that trip and day."
use Rattle.std.specs.Prelude.{Bool, not, ◌&&◌, List, [], ◌∷◌, ◌++◌, ℕ, leb, is_none}
use Rattle.connection.specs.declared.Leg.{Leg}
use Rattle.connection.specs.declared.FoundLeg.{FoundLeg}
use Rattle.connection.specs.declared.Way.{Way}
use Rattle.connection.specs.declared.Cause.{Cause}
use Rattle.connection.specs.declared.Cause.TheVariants.{RideCount, NoCall, BoardingBarred, AlightingBarred, NotLater}
use Rattle.connection.specs.Tests.{asking}
use Rattle.connection.specs.Find.{leg_at, boards, alights}

-- one ride to three
unfoldable pub ride_right : ℕ → Bool
ride_right n = leb 1 n && leb n 3

abbrev pub ride_tests : ℕ → List (Bool × Cause)
ride_tests n = (not (ride_right n), RideCount n) ∷ []

-- of leg i: its calls are there, one may board at the one and alight at the other, and that is later
abbrev pub leg_tests : ℕ → Leg → FoundLeg → List (Bool × Cause)
leg_tests i g f =
    (is_none f.board, NoCall i g.board)
    ∷ (is_none f.alight, NoCall i g.alight)
    ∷ (not (boards f).board, BoardingBarred i)
    ∷ (not (alights f).alight, AlightingBarred i)
    ∷ (leb g.alight g.board, NotLater i)
    ∷ []

-- of the first n legs
abbrev pub legs_tests : ℕ → List Leg → Way → List (Bool × Cause)
legs_tests n legs w =
    leg_tests 0 (leg_at legs 0) w.first
    ++ asking (leb 2 n) (leg_tests 1 (leg_at legs 1) w.second)
    ++ asking (leb 3 n) (leg_tests 2 (leg_at legs 2) w.third)
