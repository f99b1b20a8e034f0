-- What a display reads of a group's load, and the group of a number among those given.
use Rattle.std.specs.Prelude.{Bool, cond, List, ℕ, ◌+◌, eqb, ltb, ℤ, pos, take, set, None, Option, Some}
use Rattle.std.specs.List.{find}
use Rattle.profile.specs.declared.Journey.{Journey}
use Rattle.load.specs.declared.Load.{Load}
use Rattle.groups.specs.declared.Group.{Group}
use Rattle.groups.specs.declared.Groups.{Groups}

-- a load, given for the group of a number
abbrev pub group_of : ℕ → Load → Group
group_of n l = record {
  number = n;
  searched = l.searched;
  now = l.settings.now;
  horizon = l.horizon;
  count = l.journey_count;
  journeys = l.journeys;
}

-- the group's list
abbrev pub list_of : Group → List Journey
list_of g = take g.count g.journeys

-- those given, of up to four; with one more, where there is room
abbrev pub given_in : Groups → List Group
given_in gs = take gs.count gs.groups

unfoldable pub with_group : Groups → Group → Groups
with_group gs g = cond (ltb gs.count 4) (record { groups = set gs.groups gs.count g; count = gs.count + 1 }) gs

abbrev pub has_number : ℕ → Group → Bool
has_number i g = eqb g.number i

-- the group of a number: the first that is given so
unfoldable pub group_at : ℕ → List Group → Option Group
group_at i gs = find (has_number i) gs

-- the start of a group; another, where the group isn't given
unfoldable pub start_or : Option Group → ℤ → ℤ
start_or None z = z
start_or (Some g) z = g.now

-- the start of the lowest group
unfoldable pub lowest_start : List Group → ℤ
lowest_start gs = start_or (group_at 0 gs) (start_or (group_at 1 gs) (start_or (group_at 2 gs) (start_or (group_at 3 gs) (pos 0))))
