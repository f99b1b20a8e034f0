-- What a load file hands in: the settings of its first record, and a step for each of the others. Demands 2 and 3 speak of both.
use Rattle.refusal.specs.declared.Accepted.TheVariants.{Taken}
use Rattle.std.specs.Prelude.{◌≡◌, cond, List, [], ◌∷◌, map, ℕ, zero, suc, length, drop, Ok}
use Rattle.fields.specs.Second.{settings_by}
use Rattle.load.specs.Steps.{undated}
use Rattle.load.specs.Sound.{Opens}
use Rattle.steps.specs.Lists.{end_of}
use Rattle.file.specs.Record.{step_in}
use Rattle.file.specs.File.{starts_whole, size_of, body_of, is_second, read_spec_of}

-- the bodies of the records, in order; at most n of them
unfoldable pub bodies_by : ℕ → List ℕ → List (List ℕ)
bodies_by zero xs = []
bodies_by (suc n) xs = cond (starts_whole xs) (body_of xs ∷ bodies_by n (drop (size_of xs) xs)) []

abbrev pub bodies_of : List ℕ → List (List ℕ)
bodies_of xs = bodies_by (length (drop 1 xs)) (drop 1 xs)

-- the load at the end is the one that the settings and the steps give
pub record Handed (xs : List ℕ) : Type 0 where
  pub head : List ℕ
  pub rest : List (List ℕ)
  pub bodies : bodies_of xs ≡ head ∷ rest
  pub opens : Opens (undated (settings_by (is_second xs) head))
  pub ends : (read_spec_of xs).reader.load ≡ end_of (undated (settings_by (is_second xs) head)) (map step_in rest)

-- of every file that is read to its end
abbrev pub ReadHands : Type 0
ReadHands = (xs : List ℕ) → (read_spec_of xs).answer ≡ Ok Taken → Handed xs
