-- The display dealt, the part of a number, and its queries.
use Rattle.std.specs.Prelude.{Option, Err, Ok}
use mathlib.Core.Path.{◌≡◌, sym, ap, ◌∙◌}
use mathlib.Core.Bool.{true, false}
use mathlib.Core.List.{List, [], ◌∷◌}
use Prim.Native.Nat.{ℕ}
use lib.IntN.{ℤ}
use lib.ListN.{get_or}
use Rattle.laws.proofs.Bools.{cond-by, cond-not}
use Rattle.refusal.specs.declared.Refusal.TheVariants.{DisplayGroups}
use Rattle.shares.specs.Shares.{shares_of}
use Rattle.profile.specs.declared.Journey.{Journey}
use Rattle.best.specs.Best.{after_of}
use Rattle.groups.specs.declared.Group.{Group}
use Rattle.groups.specs.Groups.{group_at}
use Rattle.groups.specs.Refused.{turned_away}
use Rattle.display.specs.Parts.{Part, part_in, count_in}
use Rattle.display.specs.Display.{Display, counts, part_at, display_of}
use Rattle.display.specs.Queries.{best_of_group, next_of_group}

-- ---- queries

module _ (g : Group) (p : Part) where
  pub next-shown : (s : ℤ) (j : Journey) {r : Option Journey} {x y : ℤ} → y ≡ x → x ≡ after_of s j.leave → r ≡ best_of_group g p y
      → r ≡ next_of_group g p s j
  unfolding next_of_group
  next-shown s j e q h = h ∙ ap (best_of_group g p) (e ∙ q)

-- ---- the display

module _ (gs : List Group) where
  pub turned : turned_away gs ≡ true → Err DisplayGroups ≡ display_of gs
  unfolding display_of
  turned e = sym (cond-by _ _ e)

  -- the groups by number, the lengths of their lists, the shares, the parts
  pub dealt : (a b c d : Option Group) (k l m n : ℕ) (ss : List ℕ) (w x y z : Part) → turned_away gs ≡ false
      → a ≡ group_at 0 gs → b ≡ group_at 1 gs → c ≡ group_at 2 gs → d ≡ group_at 3 gs
      → k ≡ count_in a → l ≡ count_in b → m ≡ count_in c → n ≡ count_in d → ss ≡ shares_of (k ∷ l ∷ m ∷ n ∷ [])
      → w ≡ part_in a (get_or ss 0 0) → x ≡ part_in b (get_or ss 1 0) → y ≡ part_in c (get_or ss 2 0) → z ≡ part_in d (get_or ss 3 0)
      → Ok (w ∷ x ∷ y ∷ z ∷ []) ≡ display_of gs
  unfolding display_of
  dealt a b c d k l m n ss w x y z e ea eb ec ed ek el em en es ew ex ey ez =
      ap {B = Display} Ok whole ∙ sym (cond-not _ _ e)
    where
      share : ss ≡ shares_of (counts gs)
      share = cc

      whole : w ∷ x ∷ y ∷ z ∷ [] ≡ part_at gs 0 ∷ part_at gs 1 ∷ part_at gs 2 ∷ part_at gs 3 ∷ []
      whole = cc (share)
