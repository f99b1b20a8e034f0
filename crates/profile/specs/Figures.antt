-- The four figures of a journey, and the two orders on them: `covers` (equals or beats), by which journeys are kept, and `prefer`, by
-- which best picks.
use Rattle.std.specs.Prelude.{Bool, ◌&&◌, ℕ, leb}
unfoldable pub use Rattle.laws.specs.Lex.{lexb}
pub use Rattle.profile.specs.declared.figures.Figures.{Figures}

-- (arrival, rides, walk) of a is no larger than that of b, compared in that order
abbrev pub lexle : Figures → Figures → Bool
lexle a b = lexb a.arrival b.arrival (lexb a.rides b.rides (leb a.walk b.walk))

-- a equals or beats b: it leaves no earlier, and its (arrival, rides, walk) is no larger
abbrev pub covers : Figures → Figures → Bool
covers a b = leb b.leave a.leave && lexle a b

-- best takes a rather than b, or they tie: the least (arrival, rides, walk), then the latest leave
abbrev pub prefer : Figures → Figures → Bool
prefer a b = lexb a.arrival b.arrival (lexb a.rides b.rides (lexb a.walk b.walk (leb b.leave a.leave)))

-- the same of anything that has the four figures, and when it is due
module _ {A : Type 0} (fig : A → Figures) where
  abbrev pub covᶠ : A → A → Bool
  covᶠ a b = covers (fig a) (fig b)

  abbrev pub dueᶠ : A → ℕ
  dueᶠ a = (fig a).arrival
