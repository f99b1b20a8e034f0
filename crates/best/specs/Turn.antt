-- At which second best is asked, and a turn of the loop that finds it: what was found, and one journey more.
use Rattle.std.specs.Prelude.{cond, ℕ, leb, ltb, ℤ, pos, negsuc, None, Option, Some}
use Rattle.profile.specs.declared.Journey.{Journey}
use Rattle.profile.specs.Figures.{prefer}
use Rattle.profile.specs.Journeys.{journey_figures}

-- what was found stays where they tie
unfoldable pub keep_of : Option Journey → Journey → Option Journey
keep_of None j = Some j
keep_of (Some b) j = cond (prefer (journey_figures b) (journey_figures j)) (Some b) (Some j)

-- the same, without one that leaves before t
unfoldable pub better_of : ℕ → Option Journey → Journey → Option Journey
better_of t f j = cond (leb t j.leave) (keep_of f j) f

-- the second that a query is answered at: none before 0 and after the horizon h
unfoldable pub asked : ℕ → ℤ → Option ℕ
asked h (pos t) = cond (ltb h t) None (Some t)
asked h (negsuc t) = None
