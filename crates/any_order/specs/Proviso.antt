-- What the proviso is for: 513 calls, of which one is answered otherwise in another order.
use Rattle.refusal.specs.declared.Accepted.TheVariants.{Taken, Outside}
use Rattle.std.specs.Prelude.{ℕ, ◌≡◌, List, [], ◌∷◌, replicate, None, Some, Ok}
use Rattle.load.specs.declared.Load.{Load}
use Rattle.load.specs.Load.{blank_settings}
use Rattle.load.specs.Steps.{undated, opened}
use Rattle.load.specs.FillStep.{FillStep, stop, filled_by}
use Rattle.any_order.specs.Calls.{Named, calling, called, answers}

-- one stop
abbrev pub stop_alone : List FillStep
stop_alone = stop (65 ∷ []) None None (record { location_type = 0; degrees = None; members = 0 }) ∷ []

-- a load with it, whose start and epochs are 0
abbrev pub one_stop : Load
one_stop = filled_by (opened (undated blank_settings)) stop_alone

-- a call there, at so many seconds
abbrev pub at : ℕ → Named
at n = ([], record { trip = 1; day = 0; sequence = 1; stop = 0; arrival = Some n; departure = Some n; pickup = 0; drop_off = 0 })

pub record ProvisoNeeded : Type 0 where
  -- 512 calls at 20000 are taken; then one at 1000 meets a full table, whose horizon falls to 16200, and is taken too
  pub late_first : answers one_stop (replicate 512 (at 20000)) ≡ replicate 512 (at 20000, Ok Taken)
  pub early_last : (calling (called one_stop (replicate 512 (at 20000))) (at 1000)).answer ≡ Ok Taken
  -- that one first: the last of the others meets the full table, and is outside once the horizon fell
  pub early_first : (calling (called one_stop (at 1000 ∷ replicate 511 (at 20000))) (at 20000)).answer ≡ Ok Outside
