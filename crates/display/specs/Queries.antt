-- "Best and next-after take a group and its window .. A group without a display answers none."
use Rattle.std.specs.Prelude.{cond, ℤ, take, None, Option}
use Rattle.profile.specs.declared.Journey.{Journey}
use Rattle.best.specs.Best.{first_leaving, after_of}
use Rattle.groups.specs.declared.Group.{Group}
use Rattle.display.specs.Parts.{Part, shows, window_to, shown_count}

-- of the journeys shown, the first that leaves at the second or later; none before 0 and after the window
unfoldable pub best_of_group : Group → Part → ℤ → Option Journey
best_of_group g p s = cond (shows p) (first_leaving (take (shown_count p) g.journeys) (window_to p) s) None

-- at the larger of the second and the given leave + 1
unfoldable pub next_of_group : Group → Part → ℤ → Journey → Option Journey
next_of_group g p s j = best_of_group g p (after_of s j.leave)
