-- The first that leaves in time, at the second that is asked.
use Rattle.std.specs.Prelude.{cond, ltb, None, Some, option_and_then}
use Rattle.std.specs.List.{find}
use mathlib.Core.Path.{◌≡◌, refl}
use mathlib.Core.Bool.{Bool, true, false}
use mathlib.Core.List.{List, [], ◌∷◌}
use Prim.Native.Nat.{ℕ}
use lib.Dec.{leb}
use lib.IntN.{ℤ, pos, negsuc}
use Rattle.laws.specs.Lists.{firstb}
use Rattle.profile.specs.declared.Journey.{Journey}
use Rattle.best.specs.Best.{first_leaving}
use Rattle.best.specs.Turn.{asked}

find-first : (p : Journey → Bool) (ks : List Journey) → find p ks ≡ firstb p ks
find-first p [] = refl
find-first p (k ∷ ks) = rw (find-first p ks)

-- the first by the chain, at the second that is asked
pub first-asked : (h : ℕ) (s : ℤ) (ks : List Journey)
    → option_and_then (λ t. find (λ k. leb t k.leave) ks) (asked h s) ≡ first_leaving ks h s
unfolding first_leaving asked
first-asked h (negsuc t) ks = refl
first-asked h (pos t) ks = by (ltb h t)
  where
    by : (b : Bool) → option_and_then (λ t. find (λ k. leb t k.leave) ks) (cond b None (Some t))
        ≡ cond b None (firstb (λ k. leb t k.leave) ks)
    by true = refl
    by false = find-first (λ k. leb t k.leave) ks
