-- A connection's bytes and a line, by computation.
use Rattle.std.specs.Prelude.{◌≡◌, ℕ, List, [], ◌∷◌, ◌++◌, codes}
use Rattle.connection.specs.declared.Connection.{Connection}
use Rattle.connection.specs.declared.Cause.TheVariants.{TooShort, Forbidden}
use Rattle.listing.specs.declared.Verdict.TheVariants.{Listed, Impossible}
use Rattle.verdict_lines.specs.Bytes.{connection_of}
use Rattle.verdict_lines.specs.Words.{verdict_line}

-- from origin 1 to target 0 by two rides: trip 258 of day 1 from call 3 to 66051, trip 7 of day 0 from call 1 to 2; a third doesn't count
abbrev pub some_bytes : List ℕ
some_bytes =
    1 ∷ 0 ∷ 2
    ∷ 1 ∷ 2 ∷ 1 ∷ 0 ∷ 0 ∷ 0 ∷ 3 ∷ 0 ∷ 1 ∷ 2 ∷ 3
    ∷ 0 ∷ 7 ∷ 0 ∷ 0 ∷ 0 ∷ 0 ∷ 1 ∷ 0 ∷ 0 ∷ 0 ∷ 2
    ∷ 0 ∷ 0 ∷ 0 ∷ 0 ∷ 0 ∷ 0 ∷ 0 ∷ 0 ∷ 0 ∷ 0 ∷ 0
    ∷ []

abbrev pub some_connection : Connection
some_connection = record {
  origin = 1;
  target = 0;
  rides = 2;
  legs =
      record { trip = 258; day = 1; board = 3; alight = 66051 }
      ∷ record { trip = 7; day = 0; board = 1; alight = 2 }
      ∷ record { trip = 0; day = 0; board = 0; alight = 0 }
      ∷ [];
}

pub record Instances : Type 0 where
  pub read : connection_of some_bytes ≡ some_connection
  pub listed : verdict_line (Listed 12) ≡ codes "listed 12" ++ (10 ∷ [])
  pub short : verdict_line (Impossible (TooShort 0 240 1000 1239)) ≡ codes "impossible short 0 240 1000 1239" ++ (10 ∷ [])
  -- a number past what the lines of a list print
  pub forbidden : verdict_line (Impossible (Forbidden 1 18446744073709551615))
      ≡ codes "impossible forbidden 1 18446744073709551615" ++ (10 ∷ [])
