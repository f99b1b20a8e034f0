-- A display, dealt at once from the groups given: turned away with 23, or the part of each group by its number.
use Rattle.std.specs.Prelude.{cond, List, [], ◌∷◌, ℕ, get_or, None, Err, Ok, Result}
use Rattle.refusal.specs.declared.Refusal.{Refusal}
use Rattle.refusal.specs.declared.Refusal.TheVariants.{DisplayGroups}
use Rattle.shares.specs.Shares.{shares_of}
use Rattle.groups.specs.declared.Group.{Group}
use Rattle.groups.specs.Groups.{group_at}
use Rattle.groups.specs.Refused.{turned_away}
use Rattle.display.specs.Parts.{Part, part_in, count_in}

abbrev pub Display : Type 0
Display = Result (List Part) Refusal

-- the lengths of the lists, by group number
abbrev pub counts : List Group → List ℕ
counts gs = count_in (group_at 0 gs) ∷ count_in (group_at 1 gs) ∷ count_in (group_at 2 gs) ∷ count_in (group_at 3 gs) ∷ []

-- the share of group i; that of a group refused with 11 isn't dealt again
abbrev pub share_of : List Group → ℕ → ℕ
share_of gs i = get_or (shares_of (counts gs)) i 0

abbrev pub part_at : List Group → ℕ → Part
part_at gs i = part_in (group_at i gs) (share_of gs i)

unfoldable pub display_of : List Group → Display
display_of gs =
    cond (turned_away gs) (Err DisplayGroups)
    (Ok (part_at gs 0 ∷ part_at gs 1 ∷ part_at gs 2 ∷ part_at gs 3 ∷ []))

-- the part of a group; none above 3, and none where the display is turned away
unfoldable pub part_of : Display → ℕ → Part
part_of (Err r) i = None
part_of (Ok ps) i = get_or ps i None
