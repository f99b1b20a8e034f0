-- Best over lent journeys agrees with the other queries. In each, r and r' are answers as the two contracts ensure them.
use Rattle.std.specs.Prelude.{◌≡◌, true, List, ℕ, ℤ, take, Option}
use Rattle.profile.specs.declared.Journey.{Journey}
use Rattle.profile.specs.Best.{Ordered}
use Rattle.profile.specs.Journeys.{journey_figures}
use Rattle.load.specs.declared.Load.{Load}
use Rattle.best.specs.Best.{best_of_of, kept_of, best_spec}

-- `best_lent` (r), asked over the first `count` of the journeys, and `best_over` (r'), lent just these
abbrev pub OverAgrees : Type 0
OverAgrees = (js lent : List Journey) (count h : ℕ) (s : ℤ) (r r' : Option Journey) → lent ≡ take count js
    → r ≡ best_of_of (take count js) h s → r' ≡ best_of_of lent h s → r ≡ r'

-- `best` (r) of a searched load whose list is in order, and `best_over` (r'), lent its kept journeys and asked up to its horizon
abbrev pub LoadAgrees : Type 0
LoadAgrees = (l : Load) (lent : List Journey) (s : ℤ) (r r' : Option Journey) → l.searched ≡ true → Ordered journey_figures (kept_of l)
    → lent ≡ kept_of l → r ≡ best_spec l s → r' ≡ best_of_of lent l.horizon s → r ≡ r'

abbrev pub LentAgrees : Type 0
LentAgrees = OverAgrees × LoadAgrees
