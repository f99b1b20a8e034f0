-- What is claimed of a display, beside its definition: what is shown, of whom, and what best of a group answers.
use Rattle.std.specs.Prelude.{◌≡◌, ◌↔◌, Bool, true, false, cond, ℕ, ◌+◌, ◌-◌, ◌≤◌, ◌<◌, leb, ltb, ℤ, length, take, get_or, None, Option}
use Rattle.std.specs.Prelude.{Some, Err, Ok}
use mathlib.Core.List.{List, Memᴰ}
use Rattle.laws.specs.Sort.{sort}
use Rattle.refusal.specs.declared.Refusal.TheVariants.{DisplayGroups, NoRoom}
use Rattle.profile.specs.declared.Journey.{Journey}
use Rattle.profile.specs.Journeys.{no_journey, journey_figures}
use Rattle.profile.specs.Best.{Ordered, Ahead}
use Rattle.load.specs.declared.Load.{Load}
use Rattle.best.specs.Best.{answer_of, kept_of, best_spec}
use Rattle.groups.specs.declared.Group.{Group}
use Rattle.groups.specs.Groups.{group_of, list_of}
use Rattle.groups.specs.Refused.{turned_away}
use Rattle.display.specs.Parts.{Part, shows, window_to, shown_count, window_of, shown_by}
use Rattle.display.specs.Display.{share_of, display_of, part_of}
use Rattle.display.specs.Queries.{best_of_group}
use Rattle.profile.specs.Sizes.{least_horizon}
use Rattle.shares.specs.Shares.{shown_room}

-- "ranked by arrival, equals in list order": of a list in order the ranks are its places
abbrev pub earlier : Journey → Journey → Bool
earlier a b = ltb a.arrival b.arrival

abbrev pub RankedInList : Type 0
RankedInList = (ks : List Journey) → Ordered journey_figures ks → sort earlier ks ≡ ks

-- "its window is its horizon or, where one doesn't fit, a second before the arrival of the first that doesn't"
abbrev pub WindowRule : Type 0
WindowRule = (ks : List Journey) (share h : ℕ)
    → (length ks ≤ share → window_of ks share h ≡ h) × (share < length ks → window_of ks share h ≡ (get_or ks share no_journey).arrival - 1)

-- the part of the group of number i, in a display of the groups gs
abbrev pub group_part : List Group → ℕ → Part
group_part gs i = part_of (display_of gs) i

-- a group of a display that isn't turned away
pub record Given (gs : List Group) (g : Group) : Type 0 where
  pub stands : turned_away gs ≡ false
  pub given : Memᴰ g gs

-- one of its list doesn't fit its share, and what is a second before its arrival is below 3600
abbrev pub FallsBelow : List Group → Group → Type 0
FallsBelow gs g =
    (share_of gs g.number < length (list_of g)) × ((get_or (list_of g) (share_of gs g.number) no_journey).arrival - 1 < least_horizon)

-- the whole display is refused with 23 exactly where its groups turn it away; then no group has a part
abbrev pub RefusedWhole : Type 0
RefusedWhole = (gs : List Group) → ((turned_away gs ≡ true) ↔ (display_of gs ≡ Err DisplayGroups))
    × (turned_away gs ≡ true → (i : ℕ) → group_part gs i ≡ None)

-- a group's display is refused with 11 exactly where the window would fall below 3600; otherwise it shows those due by its window
abbrev pub RefusedAlone : Type 0
RefusedAlone = (gs : List Group) (g : Group) → Given gs g
    → ((FallsBelow gs g) ↔ (group_part gs g.number ≡ Some (Err NoRoom)))
    × ((FallsBelow gs g → ⊥) → shows (group_part gs g.number) ≡ true)

-- what a group shows that has a display
pub record Shows (gs : List Group) (g : Group) : Type 0 where
  pub window : window_to (group_part gs g.number) ≡ window_of (list_of g) (share_of gs g.number) g.horizon
  -- the first so many of its list are those due by the window, at most its share
  pub shown : take (shown_count (group_part gs g.number)) g.journeys ≡ shown_by (window_to (group_part gs g.number)) (list_of g)
  pub fit : shown_count (group_part gs g.number) ≤ share_of gs g.number

abbrev pub ShownRight : Type 0
ShownRight = (gs : List Group) (g : Group) → Given gs g → Ordered journey_figures (list_of g) → shows (group_part gs g.number) ≡ true
    → Shows gs g

-- "a group with 16 or fewer shows all of them whatever the others load", up to its own horizon
abbrev pub SixteenShown : Type 0
SixteenShown = (gs : List Group) (g : Group) → Given gs g → length (list_of g) ≤ 16
    → ((k : Journey) → Memᴰ k (list_of g) → k.arrival ≤ g.horizon)
    → group_part gs g.number ≡ Some (Ok (record { window = g.horizon; count = length (list_of g) }))

-- at most 64 are shown in all
abbrev pub SixtyFour : Type 0
SixtyFour = (gs : List Group) → ((g : Group) → Memᴰ g gs → Ordered journey_figures (list_of g))
    → shown_count (group_part gs 0) + (shown_count (group_part gs 1) + (shown_count (group_part gs 2) + shown_count (group_part gs 3)))
    ≤ shown_room

-- an answer, read as none if it is due after w
abbrev pub read_none_of : ℕ → Option Journey → Option Journey
read_none_of w None = None
read_none_of w (Some j) = cond (leb j.arrival w) (Some j) None

-- best by group is best of the load, read as none past the window, at every second
abbrev pub BestByGroup : Type 0
BestByGroup = (gs : List Group) (n : ℕ) (l : Load) → Given gs (group_of n l) → Ordered journey_figures (kept_of l)
    → Ahead journey_figures (kept_of l)
    → shows (group_part gs n) ≡ true → window_to (group_part gs n) ≤ l.horizon → (s : ℤ)
    → answer_of (best_of_group (group_of n l) (group_part gs n) s) ≡ read_none_of (window_to (group_part gs n)) (answer_of (best_spec l s))
