-- How the rule of each change of a row is found: the best rule for each `to`, of those from a stop or its parent.
use Rattle.std.specs.Prelude.{Bool, false, cond, not, ◌&&◌, ◌||◌, List, ℕ, ◌+◌, min, eqb, get_or, None, Option, Some}
use Rattle.laws.specs.Lists.{foldl}
use Rattle.rules.specs.declared.Rule.{Rule}
use Rattle.transfer.specs.declared.Ends.{Ends}
use Rattle.stops.specs.Sizes.{stop_room}

-- each of 128 stops has a slot; any number past them has the slot 128
abbrev pub slot_of : ℕ → ℕ
slot_of to = min to stop_room

-- how many slots
abbrev pub slots : ℕ
slots = stop_room + 1

abbrev pub is_from : ℕ → Option Rule → Bool
is_from from None = false
is_from from (Some r) = eqb r.from from

-- the better, by its from side, of what was found for a slot and one more: the stop itself before its parent, and of equals the later
abbrev pub better_from : ℕ → ℕ → Option Rule → Rule → Option Rule
better_from from parent best r = cond (eqb r.from from || (eqb r.from parent && not (is_from from best))) (Some r) best

-- the same, if the rule's `to` has the slot
abbrev pub best_next : ℕ → ℕ → ℕ → Option Rule → Rule → Option Rule
best_next from parent slot best r = cond (eqb (slot_of r.to) slot) (better_from from parent best r) best

-- the best of all for a slot
unfoldable pub best_to : List Rule → ℕ → ℕ → ℕ → Option Rule
best_to rules from parent slot = foldl (best_next from parent slot) None rules

-- the best for a stop, unless of it and the best for its parent the latter alone is from the stop itself
abbrev pub picked : ℕ → Option Rule → Option Rule → Option Rule
picked from None other = other
picked from (Some own) other = cond (eqb own.from from || not (is_from from other)) (Some own) other

-- the same of two stops and their parents
abbrev pub picked_in : List (Option Rule) → Ends → Option Rule
picked_in best e = picked e.from (get_or best e.to None) (get_or best (slot_of e.to_parent) None)
