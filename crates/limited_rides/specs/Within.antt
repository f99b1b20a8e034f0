-- What a search within a limit ends with: the state after the offers up to the limit, the joins tested, and whether none is left.
use Rattle.std.specs.Prelude.{◌≡◌, true, false, List, ℕ, ◌-◌, Option, Some, None}
use Rattle.profile.specs.Kept.{refused}
use Rattle.search_state.specs.View.{view}
use Rattle.rides.specs.Offered.{offer_all}
use Rattle.counted.specs.Events.{offers_of, joins_in, up_to, finished}
use Rattle.limited_rides.specs.declared.Tested.{Tested}
use Rattle.limited_rides.specs.Runs.{RowEvent}

-- what a limit tells where so many joins are left, or where the search has stopped
abbrev pub told : ℕ → Option ℕ → Tested
told limit (Some n) = record { joins = limit - n; finished = true }
told limit None = record { joins = limit; finished = false }

-- of a refused search nothing is claimed but that it is refused
pub record Within (l l' : List ℕ) (limit : ℕ) (es : List RowEvent) (r : Tested) : Type 0 where
  pub state : view l' ≡ offer_all (view l) (offers_of (up_to limit es))
  pub joins : (view l' ≡ refused → ⊥) → r.joins ≡ joins_in (up_to limit es)
  pub all : (view l' ≡ refused → ⊥) → r.finished ≡ finished limit es
