-- Whether one row covers another, test by test.
use mathlib.Core.Path.{◌≡◌, refl, sym, ◌∙◌}
use mathlib.Core.Bool.{Bool, true, false}
use Prim.Native.Nat.{◌≤◌, ◌<◌}
use native.Mathlib.Omega.{arith}
use lib.Dec.{leb}
use borrow.Author.Tests.{le-leb, lt-leb}
use Rattle.profile.specs.Journeys.{cov}
use Rattle.profile.specs.Figures.{lexb}
use Rattle.profile.specs.Found.{Row}
use Rattle.profile.proofs.FiguresLaws.{lexb-lt, lexb-gt, lexb-same}

module _ (a b : Row) where
  last : Bool
  last = lexb a.rides b.rides (leb a.walk b.walk)

  pub cov-early : a.leave < b.leave → false ≡ cov a b
  unfolding cov
  cov-early h = rw (lt-leb b.leave a.leave h) refl

  pub cov-sooner : b.leave ≤ a.leave → a.arrival < b.arrival → true ≡ cov a b
  unfolding cov last
  cov-sooner h k = rw (le-leb b.leave a.leave h) (sym (lexb-lt a.arrival b.arrival last k))

  pub cov-later : b.leave ≤ a.leave → b.arrival < a.arrival → false ≡ cov a b
  unfolding cov last
  cov-later h k = rw (le-leb b.leave a.leave h) (sym (lexb-gt a.arrival b.arrival last k))

  pub cov-tie : (r : Bool) → b.leave ≤ a.leave → b.arrival ≤ a.arrival → a.arrival ≤ b.arrival
      → r ≡ lexb a.rides b.rides (leb a.walk b.walk) → r ≡ cov a b
  unfolding cov last
  cov-tie r h k m e = rw (le-leb b.leave a.leave h) (e ∙ sym (lexb-same a.arrival b.arrival last (omega arith)))
