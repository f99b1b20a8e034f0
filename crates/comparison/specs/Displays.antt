-- Request 08: "between groups that have a display the certificate's comparison of searches uses that window as the horizon". Of what was
-- handed in, for any two groups that have a display, of one display or of two. What the groups load beside these two is free.
-- RULES 12, 15.1.
use Rattle.std.specs.Prelude.{◌≡◌, ◌↔◌, true, ℕ, ◌≤◌, ℤ, Option}
use mathlib.Core.List.{List, [], ◌∷◌, Memᴰ}
use Rattle.profile.specs.declared.Journey.{Journey}
use Rattle.load.specs.Steps.{Opening}
use Rattle.load.specs.Sound.{Opens}
use Rattle.best.specs.Best.{answer_of}
use Rattle.groups.specs.declared.Group.{Group}
use Rattle.groups.specs.Groups.{group_of}
use Rattle.display.specs.Parts.{shows, window_to}
use Rattle.display.specs.Display.{display_of, part_of}
use Rattle.display.specs.Queries.{best_of_group}
use Rattle.display.specs.Promises.{read_none_of}
use Rattle.steps.specs.Steps.{Step}
use Rattle.steps.specs.Lists.{end_of}
use Rattle.comparison.specs.Runs.{Finished}
use Rattle.comparison.specs.Witness.{some_opening, one_trip}
use Rattle.comparison.specs.Demands.{answer, Second, Alike, MatchedBy, Earlier}

-- of the groups gs, group n is the load that the list of steps leaves, and has a display
pub record Displayed (gs : List Group) (n : ℕ) (s : Opening) (xs : List Step) : Type 0 where
  pub given : Memᴰ (group_of n (end_of s xs)) gs
  pub shows : shows (part_of (display_of gs) n) ≡ true

abbrev pub window_in : List Group → ℕ → ℕ
window_in gs n = window_to (part_of (display_of gs) n)

-- what the program's best by group answers
abbrev pub answer_in : List Group → ℕ → Opening → List Step → ℤ → Option Journey
answer_in gs n s xs z = answer_of (best_of_group (group_of n (end_of s xs)) (part_of (display_of gs) n) z)

-- demand 3, with the windows as horizons; of groups whose searches were not stopped
abbrev pub DisplaysAgree : Type 0
DisplaysAgree = (gs gs' : List Group) (n n' : ℕ) (s s' : Opening) (xs xs' : List Step) (g : ℕ) → s.settings.now ≡ s'.settings.now
    → Opens s → Opens s'
    → Finished s xs → Finished s' xs' → Displayed gs n s xs → Displayed gs' n' s' xs' → Earlier g (window_in gs n) (window_in gs' n')
    → ((z : ℤ) → Second z → Alike g (answer_in gs n s xs z) (answer_in gs' n' s' xs' z)) ↔
    (MatchedBy g s xs s' xs' × MatchedBy g s' xs' s xs)

pub record Displays : Type 0 where
  pub agree : DisplaysAgree
  -- two groups of one display are of one start
  pub start : (gs : List Group) (n n' : ℕ) (s s' : Opening) (xs xs' : List Step) → Opens s → Opens s'
      → Displayed gs n s xs → Displayed gs n' s' xs' → s.settings.now ≡ s'.settings.now
  -- a window is no later than the horizon
  pub window : (gs : List Group) (n : ℕ) (s : Opening) (xs : List Step) → Opens s → Displayed gs n s xs
      → window_in gs n ≤ (end_of s xs).horizon
  -- best by group is best of the load, read as none past the window, at every second
  pub best : (gs : List Group) (n : ℕ) (s : Opening) (xs : List Step) → Opens s → Displayed gs n s xs → (z : ℤ)
      → answer_in gs n s xs z ≡ read_none_of (window_in gs n) (answer s xs z)
  -- the premises can be met
  pub met : Displayed (group_of 0 (end_of some_opening (one_trip 600 1200)) ∷ []) 0 some_opening (one_trip 600 1200)
