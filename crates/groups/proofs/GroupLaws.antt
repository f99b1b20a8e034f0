-- The tests of the groups given, in std's words; the start of the lowest.
use Rattle.std.specs.Prelude.{None, Option, Some, option_copied}
use Rattle.std.proofs.Common.{Bor}
use Rattle.std.specs.List.{list_any}
use Rattle.std.specs.Option.{MatchOption, option_or}
use mathlib.Core.Path.{◌≡◌, refl, ap, ◌∙◌}
use mathlib.Core.Bool.{Bool, false, ◌||◌}
use mathlib.Core.List.{List, [], ◌∷◌}
use Prim.Native.Nat.{◌-◌, ◌≤◌, ◌<◌}
use native.Mathlib.Omega.{arith}
use lib.IntN.{ℤ, pos}
use lib.ListN.{length, take, drop, get_or}
use lib.Seq.{take_all}
use Rattle.laws.specs.Lists.{anyb}
use Rattle.groups.specs.declared.Group.{Group}
use Rattle.groups.specs.Groups.{has_number, group_at, start_or, lowest_start}
use Rattle.groups.specs.Refused.{twice}

pub any-same : (p : Group → Bool) (gs : List Group) → list_any p gs ≡ anyb p gs
any-same p [] = refl
any-same p (g ∷ gs) = rw (any-same p gs)

pub start-next : (a b : Option Group) (z : ℤ) → start_or (option_or a b) z ≡ start_or a (start_or b z)
unfolding start_or
start-next None b z = refl
start-next (Some g) b z = refl

or-copied : (a b : Option (Bor Group)) → option_copied (option_or a b) ≡ option_or (option_copied a) (option_copied b)
or-copied None b = refl
or-copied (Some g) b = refl

start-or : (a b : Option (Bor Group)) (z : ℤ)
    → start_or (option_copied (option_or a b)) z ≡ start_or (option_copied a) (start_or (option_copied b) z)
start-or a b z = ap (λ (o : Option Group). start_or o z) (or-copied a b) ∙ start-next (option_copied a) (option_copied b) z

-- the first of the four that is given
pub lowest-is : (gs : List Group) (a b c d : Option (Bor Group)) → option_copied a ≡ group_at 0 gs → option_copied b ≡ group_at 1 gs
    → option_copied c ≡ group_at 2 gs → option_copied d ≡ group_at 3 gs
    → start_or (option_copied (option_or (option_or (option_or a b) c) d)) (pos 0) ≡ lowest_start gs
unfolding lowest_start
lowest-is gs a b c d ea eb ec ed =
    start-or (option_or (option_or a b) c) d (pos 0) ∙ start-or (option_or a b) c (start_or (option_copied d) (pos 0))
    ∙ start-or a b (start_or (option_copied c) (start_or (option_copied d) (pos 0)))
    ∙ (λ i. start_or (ea i) (start_or (eb i) (start_or (ec i) (start_or (ed i) (pos 0)))))

-- the start of the group, or 0
pub start-is : (o : Option (Bor Group)) (r : ℤ) {P : Bor Group → Type 0} → MatchOption o (r ≡ pos 0) P
    → ((g : Bor Group) → P g → r ≡ g.now.now) → r ≡ start_or (option_copied o) (pos 0)
unfolding start_or
start-is None r m f = m
start-is (Some g) r m f = f g m

-- a group, and those behind it
module _ (gs : List Group) where
  abbrev pub behind : List Group
  behind = take (length gs - 1) (drop 1 gs)

pub twice-cut : (gs : List Group) (d : Group) → 1 ≤ length gs
    → twice gs ≡ (anyb (has_number (get_or gs 0 d).number) (behind gs) || twice (behind gs))
unfolding twice
twice-cut [] d h = absurd (omega arith)
twice-cut (g ∷ gs) d h = rw (take_all (length (g ∷ gs) - 1) gs (omega arith))

pub twice-none : (gs : List Group) → length gs < 1 → false ≡ twice gs
unfolding twice
twice-none [] h = refl
twice-none (g ∷ gs) h = absurd (omega arith)
