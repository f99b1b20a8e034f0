-- Best and next after (RULES 9): none before 0 or after the horizon; else, of kept journeys leaving at or after the second, least arrival,
-- then rides, then walk, then latest leave. A load's list stands in that order, so its best is the first that leaves in time.
use Rattle.std.specs.Prelude.{◌≡◌, true, cond, List, ℕ, ◌+◌, take, ℤ, pos, None, Some, Option}
use Rattle.std.specs.Int.Signed.{lt_z}
use Rattle.profile.specs.declared.Journey.{Journey}
use Rattle.profile.specs.Journeys.{journey_figures}
use Rattle.profile.specs.Best.{bestℤ, firstℤ, Ordered}
use Rattle.load.specs.declared.Load.{Load}

-- the value of each case of the answer. The answer is an `Option` itself, so each case is its own value and nothing changes; it stands here
-- as every answer that is an enum has such a definition, of which the demands speak
abbrev pub answer_of : Option Journey → Option Journey
answer_of (Some j) = Some j
answer_of None = None

-- over a list in any order, up to a horizon, by reading all of it; of full ties the first
abbrev pub best_of_of : List Journey → ℕ → ℤ → Option Journey
best_of_of ks h s = bestℤ journey_figures ks h s

-- the kept journeys of a load
abbrev pub kept_of : Load → List Journey
kept_of l = take l.journey_count l.journeys

-- the first of a list that leaves at the second or later: none before 0 and after the horizon
unfoldable pub first_leaving : List Journey → ℕ → ℤ → Option Journey
first_leaving ks h s = firstℤ journey_figures ks h s

-- an unsearched load answers none
unfoldable pub best_spec : Load → ℤ → Option Journey
best_spec l s = cond l.searched (first_leaving (kept_of l) l.horizon s) None

-- the larger of the second and the given leave + 1
unfoldable pub after_of : ℤ → ℕ → ℤ
after_of s leave = cond (lt_z s (pos (leave + 1))) (pos (leave + 1)) s

unfoldable pub next_spec : Load → ℤ → Journey → Option Journey
next_spec l s j = best_spec l (after_of s j.leave)

-- of a searched load whose list is in order, best is that of the whole list, at every second
abbrev pub BestOfAll : Type 0
BestOfAll = (l : Load) → l.searched ≡ true → Ordered journey_figures (kept_of l) → (s : ℤ)
    → best_spec l s ≡ best_of_of (kept_of l) l.horizon s
