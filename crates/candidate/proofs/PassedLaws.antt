-- Offers that need not be made, since a row that covers them would be passed over.
use mathlib.Core.Path.{◌≡◌, refl, sym, ◌∙◌}
use mathlib.Core.Logic.{◌⊎◌, inl, inr}
use mathlib.Core.Bool.{Bool, true, false, true≢false, ◌||◌}
use mathlib.Core.List.Memᴰ
use mathlib.Core.List.{List, [], ◌∷◌}
use Prim.Native.Nat.{ℕ, ◌≤◌}
use native.Mathlib.Omega.{arith}
use lib.Dec.{leb, ltb}
use lib.ListN.{take}
use borrow.Author.Tests.{le-leb, le-ltb, lt-ltb, ltb-true, ltb-false}
use Rattle.laws.proofs.Bools.{and-true, or-true-cases, or-true-left, or_true_right, test}
use Rattle.profile.specs.Found.{Row}
use Rattle.profile.specs.Figures.{lexb}
use Rattle.profile.specs.Kept.{SearchState, going, refused, too_late}
use Rattle.profile.specs.Journeys.{row_figures, cov, due}
use Rattle.profile.proofs.FiguresLaws.{lexb-lt, lexb-eq, covers-arrival, figures-order}
use Rattle.profile.specs.Walk.{passes}
use Rattle.profile.proofs.WalkLaws.{passes-covered}
use Rattle.search_state.specs.View.{rows, count_of, horizon_of, kept_of, view}
use Rattle.search_state.proofs.ViewLaws.{view-open, in_time}
use Rattle.candidate.specs.Offer.{offer_to, passed_over, OffersCovered, CoveredPassed}
use Rattle.candidate.specs.Pieces.{passing}

-- ---- what `passes_over` finds

pub passed-late : (s : SearchState Row) (o : Row) (b : Bool) → b ≡ too_late s (due o) → b ≡ true → true ≡ passed_over s o
unfolding passed_over
passed-late (going ks h l) o b e t =
    let y : ltb h (due o) ≡ true = sym e ∙ t in
    rw y refl
passed-late refused o b e t = refl

pub passed-covered : (l : List ℕ) (o : Row) (b r : Bool) (c : ℕ) → b ≡ too_late (view l) (due o) → b ≡ false → c ≡ count_of l
    → r ≡ passing o (take c (rows l))
    → r ≡ passed_over (view l) o
unfolding passed_over kept_of
passed-covered l o b r c e f ec er =
    let (open', early) = in_time l (due o) b e f in
    rw (view-open l open', le-ltb (horizon_of l) (due o) early, ← ec) er

-- ---- what follows from it

-- a row covers each one that has its leave, rides and walk and is due no earlier
pub cov-no-later : (b o : Row) → b.leave ≡ o.leave → b.arrival ≤ o.arrival → b.rides ≡ o.rides → b.walk ≡ o.walk → cov b o ≡ true
unfolding cov
cov-no-later b o el ea er ew =
    and-true _ _ (le-leb o.leave b.leave (omega arith)) (go (test (ltb b.arrival o.arrival)))
  where
    rest : Bool
    rest = lexb b.rides o.rides (leb b.walk o.walk)

    go : (ltb b.arrival o.arrival ≡ true) ⊎ (ltb b.arrival o.arrival ≡ false) → lexb b.arrival o.arrival rest ≡ true
    go (inl t) = lexb-lt b.arrival o.arrival rest (ltb-true b.arrival o.arrival t)
    go (inr t) =
        lexb-eq b.arrival o.arrival rest (omega (arith, ltb-false b.arrival o.arrival t))
        (lexb-eq b.rides o.rides _ er (le-leb b.walk o.walk (omega arith)))

pub covered-passed : CoveredPassed
unfolding passed_over passing cov due
covered-passed (going ks h l) b o p c = go (or-true-cases (ltb h b.arrival) (passes cov b ks) p)
  where
    go : (ltb h b.arrival ≡ true) ⊎ (passes cov b ks ≡ true) → (ltb h o.arrival || passes cov o ks) ≡ true
    go (inl t) =
        or-true-left _ _ (lt-ltb h o.arrival (omega (arith, ltb-true h b.arrival t, covers-arrival (row_figures b) (row_figures o) c)))
    go (inr t) = or_true_right (ltb h o.arrival) _ (passes-covered (figures-order row_figures) b o ks c t)
covered-passed refused b o p c = refl

pub passed-stays : (s : SearchState Row) (o : Row) → passed_over s o ≡ true → offer_to s o ≡ s
unfolding passed_over offer_to passing cov due
passed-stays (going ks h l) o p = go (test (ltb h o.arrival)) (or-true-cases (ltb h o.arrival) (passes cov o ks) p)
  where
    go : (ltb h o.arrival ≡ true) ⊎ (ltb h o.arrival ≡ false) → (ltb h o.arrival ≡ true) ⊎ (passes cov o ks ≡ true)
        → offer_to (going ks h l) o ≡ going ks h l
    go (inl t) y = rw t refl
    go (inr t) (inl y) = absurd (true≢false (sym y ∙ t))
    go (inr t) (inr y) = rw (t, y) refl
passed-stays refused o p = refl

pub offers-covered : OffersCovered
offers-covered s b [] p f = refl
offers-covered s b (o ∷ os) p f =
    rw (passed-stays s o (covered-passed s b o p (f o (Memᴰ.head refl)))) (offers-covered s b os p (λ x m. f x (Memᴰ.tail m)))
