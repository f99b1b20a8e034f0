-- "A group's journeys are ranked by arrival, equals in list order; its window is its horizon or, where one doesn't fit, a second before the
-- arrival of the first that doesn't, and only those due by then are shown .. If a window would fall below 3600, that group's display is
-- refused with 11." A searched load's list stands in that order (`RankedInList` in specs/Promises), so the ranks are places of the list.
use Rattle.std.specs.Prelude.{Bool, true, false, cond, ◌&&◌, List, [], ◌∷◌, ℕ, ◌-◌, leb, ltb, length, drop, None, Option, Some, Err, Ok}
use Rattle.std.specs.Prelude.{Result}
use Rattle.laws.specs.Lists.{filterb}
use Rattle.refusal.specs.declared.Refusal.{Refusal}
use Rattle.refusal.specs.declared.Refusal.TheVariants.{NoRoom}
use Rattle.profile.specs.declared.Journey.{Journey}
use Rattle.groups.specs.declared.Group.{Group}
use Rattle.groups.specs.Groups.{list_of}
use Rattle.display.specs.declared.part.Shown.{Shown}
use Rattle.profile.specs.Sizes.{least_horizon}

-- what a group shows, or why it shows nothing; none of a group that isn't given
abbrev pub Part : Type 0
Part = Option (Result Shown Refusal)

-- whether journeys are shown; up to which window and how many, 0 where none is
abbrev pub shows : Part → Bool
shows None = false
shows (Some (Err r)) = false
shows (Some (Ok s)) = true

abbrev pub window_to : Part → ℕ
window_to None = 0
window_to (Some (Err r)) = 0
window_to (Some (Ok s)) = s.window

abbrev pub shown_count : Part → ℕ
shown_count None = 0
shown_count (Some (Err r)) = 0
shown_count (Some (Ok s)) = s.count

-- a second before the arrival of the first of those that don't fit; the horizon where all do
unfoldable pub window_before : List Journey → ℕ → ℕ
window_before [] h = h
window_before (j ∷ js) h = j.arrival - 1

-- the window of a list with such a share and horizon
unfoldable pub window_of : List Journey → ℕ → ℕ → ℕ
window_of ks share h = window_before (drop share ks) h

-- one of so many doesn't fit, and the window is below 3600
unfoldable pub falls_below : ℕ → ℕ → ℕ → Bool
falls_below n share w = ltb share n && ltb w least_horizon

abbrev pub is_due : ℕ → Journey → Bool
is_due w j = leb j.arrival w

-- those due by the window
abbrev pub shown_by : ℕ → List Journey → List Journey
shown_by w ks = filterb (is_due w) ks

-- what a list shows with such a share and horizon: 11 where its window falls below 3600
unfoldable pub shown_part : List Journey → ℕ → ℕ → Result Shown Refusal
shown_part ks share h =
    cond (falls_below (length ks) share (window_of ks share h)) (Err NoRoom)
    (Ok (record { window = window_of ks share h; count = length (shown_by (window_of ks share h) ks) }))

abbrev pub part_for : Group → ℕ → Result Shown Refusal
part_for g share = shown_part (list_of g) share g.horizon

unfoldable pub part_in : Option Group → ℕ → Part
part_in None share = None
part_in (Some g) share = Some (part_for g share)

-- how long the list of a group is; 0 where the group isn't given
unfoldable pub count_in : Option Group → ℕ
count_in None = 0
count_in (Some g) = length (list_of g)
