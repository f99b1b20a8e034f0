-- The answer, with a file of which it speaks: papers/first.load. The contract of `tutors_answer()` cites this record.
use Rattle.std.specs.Prelude.{◌≡◌, List, [], ◌∷◌, ◌++◌, ℕ, true}
use Rattle.lines.specs.Marked.{first_journey, first_horizon}
use Rattle.tutor.specs.Paper.{Bytes}
use Rattle.tutor.specs.Printed.{RefusedLine}
use Rattle.tutor.specs.Tutor.{printed, Answers, TutorsAnswer}

-- papers/first.load: version 1; walk 5, target walk 2, change time 0; stops home and school; trip 1 from one to the other; a search
abbrev pub first_load : List ℕ
first_load =
    1
    ∷ 0 ∷ 39 ∷ 1 ∷ 1 ∷ 1 ∷ 5 ∷ 2 ∷ 0 ∷ 0 ∷ 0 ∷ 0 ∷ 0 ∷ 0 ∷ 0 ∷ 0 ∷ 0 ∷ 0 ∷ 0 ∷ 0 ∷ 0 ∷ 0 ∷ 0 ∷ 0 ∷ 0 ∷ 0 ∷ 0 ∷ 0 ∷ 0 ∷ 0 ∷ 0 ∷ 0
    ∷ 0 ∷ 0 ∷ 0 ∷ 0 ∷ 0 ∷ 0 ∷ 0 ∷ 0 ∷ 0 ∷ 0
    ∷ 0 ∷ 11 ∷ 2 ∷ 4 ∷ 104 ∷ 111 ∷ 109 ∷ 101 ∷ 0 ∷ 0 ∷ 0 ∷ 0 ∷ 1
    ∷ 0 ∷ 13 ∷ 2 ∷ 6 ∷ 115 ∷ 99 ∷ 104 ∷ 111 ∷ 111 ∷ 108 ∷ 0 ∷ 0 ∷ 0 ∷ 0 ∷ 16
    ∷ 0 ∷ 22 ∷ 3 ∷ 0 ∷ 1 ∷ 0 ∷ 0 ∷ 0 ∷ 0 ∷ 1 ∷ 0 ∷ 0 ∷ 1 ∷ 0 ∷ 0 ∷ 2 ∷ 88 ∷ 1 ∷ 0 ∷ 0 ∷ 2 ∷ 88 ∷ 0 ∷ 0
    ∷ 0 ∷ 22 ∷ 3 ∷ 0 ∷ 1 ∷ 0 ∷ 0 ∷ 0 ∷ 0 ∷ 2 ∷ 0 ∷ 1 ∷ 1 ∷ 0 ∷ 0 ∷ 4 ∷ 176 ∷ 1 ∷ 0 ∷ 0 ∷ 4 ∷ 176 ∷ 0 ∷ 0
    ∷ 0 ∷ 1 ∷ 5
    ∷ []

-- it is of bytes, is not refused, and says a search
pub record Met : Type 0 where
  pub bytes : Bytes first_load
  -- "journey 300 1320 1 5 0 0", "horizon 21600 limits 0"
  pub prints : printed first_load ≡ first_journey ++ first_horizon
  pub not_refused : (n : ℕ) → RefusedLine n (printed first_load) → ⊥
  pub searched : (a : Answers first_load (printed first_load)) → a.end.searched ≡ true

pub record Proved : Type 0 where
  pub answer : TutorsAnswer
  pub met : Met
