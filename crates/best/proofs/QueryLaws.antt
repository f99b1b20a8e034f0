-- Best of a load that is not searched, the best after a missed journey, and best of a list in order.
use Rattle.std.specs.Prelude.{None, Option}
use mathlib.Core.Path.{◌≡◌, sym, ap, ◌∙◌}
use mathlib.Core.Bool.{false}
use lib.IntN.{ℤ}
use Rattle.laws.proofs.Bools.{cond-by, cond-not}
use Rattle.profile.specs.declared.Journey.{Journey}
use Rattle.profile.specs.Journeys.{journey_figures}
use Rattle.profile.proofs.ClaimLaws.{best-in-order}
use Rattle.load.specs.declared.Load.{Load}
use Rattle.best.specs.Best.{first_leaving, kept_of, best_spec, after_of, next_spec, BestOfAll}

module _ (l : Load) (s : ℤ) where
  pub best-unsearched : l.searched ≡ false → None ≡ best_spec l s
  unfolding best_spec
  best-unsearched e = sym (cond-not _ _ e)

  pub best-next : (j : Journey) {r : Option Journey} {x y : ℤ} → y ≡ x → x ≡ after_of s j.leave → r ≡ best_spec l y → r ≡ next_spec l s j
  unfolding next_spec
  best-next j p q h = h ∙ ap (best_spec l) (p ∙ q)

-- of a list in order it is the full read's
pub best-of-all : BestOfAll
unfolding best_spec first_leaving
best-of-all l e o s = cond-by _ _ e ∙ best-in-order journey_figures (kept_of l) o l.horizon s
