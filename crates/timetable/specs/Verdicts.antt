-- What is said of a connection, as plain numbers.
use Rattle.std.specs.Prelude.{[], ◌∷◌, ℕ, get_or, min, Err, Ok}
use Rattle.refusal.specs.First.{Answer}
use Rattle.load.specs.declared.Load.{Load}
use Rattle.connection.specs.declared.Leg.{Leg}
use Rattle.connection.specs.declared.Connection.{Connection}
use Rattle.connection.specs.declared.Cause.{Cause}
use Rattle.connection.specs.declared.Cause.TheVariants.{RideCount, NoCall, BoardingBarred, AlightingBarred, NotLater, NotOrigin, NotTarget}
use Rattle.connection.specs.declared.Cause.TheVariants.{TooEarly, TooManyChanges, SameRun, Forbidden, NoChange, TooShort}
use Rattle.listing.specs.declared.Verdict.{Verdict}
use Rattle.listing.specs.declared.Verdict.TheVariants.{NotFinished, Late, Listed, AsGood, Beaten, Uncovered, Impossible}
use Rattle.verdict.specs.Verdicts.{verdict_of}
use Rattle.file.specs.declared.RecordResult.{RecordResult}
use Rattle.timetable.specs.declared.judged.TimetableLeg.{TimetableLeg}
use Rattle.timetable.specs.declared.judged.TimetableConnection.{TimetableConnection}
use Rattle.timetable.specs.declared.judged.TimetableVerdict.{TimetableVerdict}

-- ---- the connection

unfoldable pub leg_of : TimetableLeg → Leg
leg_of g = record { trip = g.trip; day = g.day; board = g.board; alight = g.alight }

abbrev pub leg_at : TimetableConnection → ℕ → Leg
leg_at c i = leg_of (get_or c.leg i (record { board = 0; alight = 0; trip = 0; day = 0 }))

unfoldable pub connection_of : TimetableConnection → Connection
connection_of c = record {
  origin = c.origin;
  target = c.target;
  rides = c.rides;
  legs = leg_at c 0 ∷ leg_at c 1 ∷ leg_at c 2 ∷ [];
}

-- ---- the verdict: kind, cause, the leg, the change or the place that is meant, and three further numbers

abbrev pub said : ℕ → ℕ → ℕ → ℕ → ℕ → ℕ → TimetableVerdict
said kind cause at a b c = record { a = a; b = b; c = c; kind = kind; cause = cause; at = at }

unfoldable pub cause_row : Cause → TimetableVerdict
cause_row (RideCount n) = said 6 1 0 n 0 0
cause_row (NoCall i sequence) = said 6 2 i sequence 0 0
cause_row (BoardingBarred i) = said 6 3 i 0 0 0
cause_row (AlightingBarred i) = said 6 4 i 0 0 0
cause_row (NotLater i) = said 6 5 i 0 0 0
cause_row NotOrigin = said 6 6 0 0 0 0
cause_row NotTarget = said 6 7 0 0 0 0
cause_row (TooEarly walk departure) = said 6 8 0 walk departure 0
cause_row (TooManyChanges n) = said 6 9 0 n 0 0
cause_row (SameRun i) = said 6 10 i 0 0 0
cause_row (Forbidden i rule) = said 6 11 i (min rule 255) 0 0
cause_row (NoChange i) = said 6 12 i 0 0 0
cause_row (TooShort i needed arrival departure) = said 6 13 i needed arrival departure

unfoldable pub verdict_row : Verdict → TimetableVerdict
verdict_row NotFinished = said 0 0 0 0 0 0
verdict_row Late = said 1 0 0 0 0 0
verdict_row (Listed place) = said 2 0 (min place 255) 0 0 0
verdict_row (AsGood place) = said 3 0 (min place 255) 0 0 0
verdict_row (Beaten place) = said 4 0 (min place 255) 0 0 0
verdict_row Uncovered = said 5 0 0 0 0 0
verdict_row (Impossible cause) = cause_row cause

-- nothing is said by a refused file
unfoldable pub judged_by : Answer → Load → TimetableConnection → TimetableVerdict
judged_by (Ok a) l c = verdict_row (verdict_of l (connection_of c))
judged_by (Err r) l c = said 0 0 0 0 0 0

abbrev pub judged_of : RecordResult → TimetableConnection → TimetableVerdict
judged_of t c = judged_by t.answer t.reader.load c
