-- The state of a search after a list of offers.
use Rattle.std.specs.Prelude.{◌≡◌, List, ℕ}
use Rattle.laws.specs.Lists.{foldl}
use Rattle.profile.specs.Found.{Row}
use Rattle.profile.specs.Kept.{SearchState}
use Rattle.search_state.specs.View.{view}
use Rattle.candidate.specs.Offer.{offer_to}

-- the state after the offers, one after the other
unfoldable pub offer_all : SearchState Row → List Row → SearchState Row
offer_all s os = foldl offer_to s os

-- t is the state s after the steps es, one after the other; `see` is what is read of a state
pub record After {S X E : Type 0} (see : S → X) (step : X → E → X) (s t : S) (es : List E) : Type 0 where
  pub is : see t ≡ foldl step (see s) es

-- the array l' is the state of the array l after the offers
abbrev pub Offered : List ℕ → List ℕ → List Row → Type 0
Offered l l' os = After view offer_to l l' os
