-- The fold finds the definition's answer; the ways of a turn.
use Rattle.std.specs.Prelude.{None, Some, Option, option_and_then}
use Rattle.std.specs.List.{fold}
use mathlib.Core.Path.{◌≡◌, refl, sym, ap, ◌∙◌}
use mathlib.Core.Bool.{Bool, true, false, cond, true≢false}
use mathlib.Core.List.{List, [], ◌∷◌}
use Prim.Native.Nat.{ℕ, ◌≤◌, ◌<◌}
use native.Mathlib.Omega.{arith}
use borrow.Author.Tests.{lt-ltb, le-ltb, ltb-true}
use lib.Dec.{leb, ltb}
use lib.IntN.{ℤ, pos, negsuc, nat_abs}
use lib.Signed.{lt_z}
use mir.Syntax.{w64}
use mir.Val.{SFits, to_z, of_z}
use mir.Facts.{to_z-of_z}
use Rattle.laws.specs.Lists.{filterb, foldl}
use Rattle.profile.specs.declared.Journey.{Journey}
use Rattle.profile.specs.Journeys.{journey_figures}
use Rattle.profile.specs.Best.{pick, keep}
use Rattle.profile.proofs.PickLaws.{loop-pick}
use Rattle.best.specs.Best.{best_of_of}
use Rattle.best.specs.Turn.{asked, keep_of, better_of}

-- ---- the fold finds the definition's answer

keep-same : (o : Option Journey) (j : Journey) → keep_of o j ≡ keep journey_figures o j
unfolding keep_of
keep-same None j = refl
keep-same (Some b) j = refl

fold-better : (t : ℕ) (o : Option Journey) (xs : List Journey)
    → fold (better_of t) o xs ≡ foldl (keep journey_figures) o (filterb (λ k. leb t k.leave) xs)
unfolding better_of
fold-better t o [] = refl
fold-better t o (x ∷ xs) = by (leb t x.leave) (fold-better t (keep journey_figures o x) xs) (fold-better t o xs)
  where
    by : (b : Bool) → fold (better_of t) (keep journey_figures o x) xs
        ≡ foldl (keep journey_figures) (keep journey_figures o x) (filterb (λ k. leb t k.leave) xs)
        → fold (better_of t) o xs ≡ foldl (keep journey_figures) o (filterb (λ k. leb t k.leave) xs)
        → fold (better_of t) (cond b (keep_of o x) o) xs
        ≡ foldl (keep journey_figures) o (cond b (x ∷ filterb (λ k. leb t k.leave) xs) (filterb (λ k. leb t k.leave) xs))
    by true h k = rw keep-same h
    by false h k = k

-- best by the loop, at the second that is asked
pub turns-best : (h : ℕ) (s : ℤ) (xs : List Journey) → option_and_then (λ t. fold (better_of t) None xs) (asked h s) ≡ best_of_of xs h s
unfolding asked
turns-best h (negsuc t) xs = refl
turns-best h (pos t) xs = by (ltb h t)
  where
    by : (b : Bool) → option_and_then (λ t. fold (better_of t) None xs) (cond b None (Some t))
        ≡ cond b None (pick journey_figures (filterb (λ k. leb t k.leave) xs))
    by true = refl
    by false = fold-better t None xs ∙ loop-pick journey_figures (filterb (λ k. leb t k.leave) xs)

-- ---- the ways of a second

pub asked-before : (h : ℕ) (s : ℤ) → lt_z s (pos 0) ≡ true → None ≡ asked h s
unfolding asked
asked-before h (pos t) e = let l = ltb-true t 0 e in absurd (omega arith)
asked-before h (negsuc t) e = refl

pub asked-after : (h : ℕ) (s : ℤ) → lt_z s (pos 0) ≡ false → h < nat_abs s → None ≡ asked h s
unfolding asked
asked-after h (pos t) e l = rw (lt-ltb h t l)
asked-after h (negsuc t) e l = refl

pub asked-within : (h : ℕ) (s : ℤ) → lt_z s (pos 0) ≡ false → nat_abs s ≤ h → Some (nat_abs s) ≡ asked h s
unfolding asked
asked-within h (pos t) e l = rw (le-ltb h t l)
asked-within h (negsuc t) e l = absurd (true≢false e)

-- what follows from a second that was asked
pub asked-then : {A : Type 0} (f : ℕ → Option A) (h : ℕ) {s z : ℤ} {r o : Option ℕ}
    → r ≡ o → r ≡ asked h z → z ≡ s → option_and_then f o ≡ option_and_then f (asked h s)
asked-then f h p q e = ap (option_and_then f) (sym p ∙ q ∙ ap (asked h) e)

pub as_is : (z : ℤ) → SFits w64 z → to_z w64 (of_z w64 z) ≡ z
as_is z f = to_z-of_z f
