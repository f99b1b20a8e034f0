-- "Turned away: 23 a group above 3 or given twice, an unsearched load or a start unlike the lowest group's, first, for the whole display."
-- The test, and the four causes as relations.
use Rattle.std.specs.Prelude.{◌≡◌, ◌⊎◌, ◌↔◌, Bool, true, false, not, ◌||◌, ◌≤◌, ◌<◌, ltb, ℤ}
use mathlib.Core.List.{List, [], ◌∷◌, ◌++◌, Memᴰ}
use Rattle.std.specs.Int.Signed.{lt_z}
use Rattle.laws.specs.Lists.{anyb}
use Rattle.groups.specs.declared.Group.{Group}
use Rattle.groups.specs.Groups.{has_number, lowest_start}

-- one start is earlier than the other
unfoldable pub unlike : ℤ → ℤ → Bool
unlike a b = lt_z a b || lt_z b a

-- a group above 3, an unsearched load, or a start unlike this
unfoldable pub is_wrong : ℤ → Group → Bool
is_wrong low g = ltb 3 g.number || (not g.searched || unlike g.now low)

-- a number that stands twice
unfoldable pub twice : List Group → Bool
twice [] = false
twice (g ∷ gs) = anyb (has_number g.number) gs || twice gs

unfoldable pub turned_away : List Group → Bool
turned_away gs = twice gs || anyb (is_wrong (lowest_start gs)) gs

-- ---- the four causes

abbrev pub Above : List Group → Type 0
Above gs = (g : Group) × Memᴰ g gs × (3 < g.number)

-- two places hold groups of one number
pub record Twice (gs : List Group) : Type 0 where
  pub before : List Group
  pub one : Group
  pub between : List Group
  pub other : Group
  pub behind : List Group
  pub are : gs ≡ before ++ one ∷ between ++ other ∷ behind
  pub same : other.number ≡ one.number

abbrev pub Unsearched : List Group → Type 0
Unsearched gs = (g : Group) × Memᴰ g gs × (g.searched ≡ false)

-- none of those given has a lower number than l
abbrev pub Lowest : List Group → Group → Type 0
Lowest gs l = Memᴰ l gs × ((g : Group) → Memᴰ g gs → l.number ≤ g.number)

abbrev pub Unlike : List Group → Type 0
Unlike gs = (g l : Group) × Memᴰ g gs × Lowest gs l × (g.now ≡ l.now → ⊥)

-- a display is turned away exactly by one of the four
abbrev pub TurnedAwayExactly : Type 0
TurnedAwayExactly = (gs : List Group) → (turned_away gs ≡ true) ↔ (Above gs ⊎ (Twice gs ⊎ (Unsearched gs ⊎ Unlike gs)))
