-- What stands on the lines that are printed (request 01), read as text: words in ASCII, numbers in decimal.
-- RULES 13.3.
use Rattle.std.specs.Prelude.{List, [], ◌∷◌, ◌++◌, ℕ}
use Rattle.profile.specs.declared.Journey.{Journey}
use Rattle.lines.specs.Decimal.{Spells}

-- "journey", "horizon", " limits", "refused"
abbrev pub journey_word : List ℕ
journey_word = 106 ∷ 111 ∷ 117 ∷ 114 ∷ 110 ∷ 101 ∷ 121 ∷ []

abbrev pub horizon_word : List ℕ
horizon_word = 104 ∷ 111 ∷ 114 ∷ 105 ∷ 122 ∷ 111 ∷ 110 ∷ []

abbrev pub limits_word : List ℕ
limits_word = 32 ∷ 108 ∷ 105 ∷ 109 ∷ 105 ∷ 116 ∷ 115 ∷ []

abbrev pub refused_word : List ℕ
refused_word = 114 ∷ 101 ∷ 102 ∷ 117 ∷ 115 ∷ 101 ∷ 100 ∷ []

-- the end of a line: these numbers, each after a space, and a newline
pub data Numbers : List ℕ → List ℕ → Type 0 where
  newline : Numbers [] (10 ∷ [])
  number : {n : ℕ} {ns digits rest : List ℕ} → Spells n digits → Numbers ns rest → Numbers (n ∷ ns) (32 ∷ (digits ++ rest))

-- "journey L A R W O T"
pub data JourneyLine (j : Journey) : List ℕ → Type 0 where
  journey_line : {rest : List ℕ} → Numbers (j.leave ∷ j.arrival ∷ j.rides ∷ j.walk ∷ j.origin ∷ j.target ∷ []) rest
      → JourneyLine j (journey_word ++ rest)

-- "horizon H limits M"
pub data HorizonLine (h m : ℕ) : List ℕ → Type 0 where
  horizon_line : {digits rest : List ℕ} → Spells h digits → Numbers (m ∷ []) rest
      → HorizonLine h m (horizon_word ++ 32 ∷ (digits ++ (limits_word ++ rest)))

-- "refused N"
pub data RefusedLine (n : ℕ) : List ℕ → Type 0 where
  refused_line : {rest : List ℕ} → Numbers (n ∷ []) rest → RefusedLine n (refused_word ++ rest)

-- a line for each of the journeys, in order, then the horizon's
pub data Lines : List Journey → ℕ → ℕ → List ℕ → Type 0 where
  last : {h m : ℕ} {line : List ℕ} → HorizonLine h m line → Lines [] h m line
  next : {j : Journey} {js : List Journey} {h m : ℕ} {line rest : List ℕ} → JourneyLine j line → Lines js h m rest
      → Lines (j ∷ js) h m (line ++ rest)
