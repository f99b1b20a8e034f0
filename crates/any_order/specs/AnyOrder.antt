-- **Request 14.** Loads opened alike and handed the same stops, services, exceptions and rules in one order, then the same calls in two.
-- "The same calls" are a bag: refused and repeated ones are among them.
use Rattle.std.specs.Prelude.{ℕ, ◌+◌, ◌≤◌, ◌≡◌, false, length}
use mathlib.Core.List.{List, map, Permᴰ}
use Rattle.load.specs.declared.Load.{Load}
use Rattle.load.specs.Steps.{Opening, opened}
use Rattle.load.specs.FillStep.{FillStep, call, filled_by}
use Rattle.search.specs.Search.{search_spec}
use Rattle.search.specs.Within.{within_spec, step_of}
use Rattle.steps.specs.Steps.{filling, stepped}
use Rattle.any_order.specs.Calls.{Named, calling, called, answers, answer_first, cramped}
use Rattle.any_order.specs.Alike.{OnlyOrder, Alike}
use Rattle.calls.specs.Sizes.{call_room}

-- what two orders of the same calls, handed to l, have in common
pub record InAnyOrder (l : Load) (xs ys : List Named) : Type 0 where
  -- each call is answered as if it were the first of all
  pub alone : answers l xs ≡ map (answer_first l) xs
  pub alone' : answers l ys ≡ map (answer_first l) ys
  -- so the same calls have the same answers
  pub each : Permᴰ (answers l xs) (answers l ys)
  -- before the search only the stored order may differ
  pub before : OnlyOrder (called l xs) (called l ys)
  -- one refusal for both, or equal searched loads: list, horizon, mark and all else
  pub searched : Alike search_spec (called l xs) (called l ys)
  -- the same within any limit on joins
  pub limited : (n : ℕ) → Alike (λ m. step_of (within_spec m n)) (called l xs) (called l ys)

-- one order meets 11 or a cut exactly if the other does
abbrev pub ProvisoAlike : Type 0
ProvisoAlike = (o : Opening) (fs : List FillStep) (xs ys : List Named) → Permᴰ xs ys
    → cramped (filled_by (opened o) fs) xs ≡ cramped (filled_by (opened o) fs) ys

-- if none does; calls may also be among what was handed in before
abbrev pub AnyOrder : Type 0
AnyOrder = (o : Opening) (fs : List FillStep) (xs ys : List Named) → Permᴰ xs ys
    → cramped (filled_by (opened o) fs) xs ≡ false → InAnyOrder (filled_by (opened o) fs) xs ys

-- calls for which the table has room, taken or not, meet neither: two orders may differ from 513 calls on
abbrev pub RoomForAll : Type 0
RoomForAll = (o : Opening) (fs : List FillStep) (cs : List Named)
    → (filled_by (opened o) fs).call_count + length cs ≤ call_room → cramped (filled_by (opened o) fs) cs ≡ false

-- none of these loads is searched, so `calling` is the step of a list of steps (request 11)
abbrev pub SteppedAlike : Type 0
SteppedAlike = (o : Opening) (fs : List FillStep) (cs : List Named) (c : Named)
    → let l = called (filled_by (opened o) fs) cs in
    stepped l (filling (call c.0 c.1)) ≡ calling l c
