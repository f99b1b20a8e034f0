-- Two loads that differ in the stored order of calls alone, and a step that takes no notice of it.
use Rattle.std.specs.Prelude.{ℕ, ◌≡◌, true, false, take, drop}
use mathlib.Core.List.{List, Permᴰ}
use Rattle.refusal.specs.First.{is_refused}
use Rattle.calls.specs.declared.Call.{Call}
use Rattle.load.specs.declared.Load.{Load}
use Rattle.load.specs.declared.StepResult.{StepResult}
use Rattle.load.specs.Load.{seen_of, with_seen}
use Rattle.search.specs.Search.{search_spec}
use Rattle.search.specs.Within.{within_spec, step_of}

-- the load with this array of calls, every other field as it is
abbrev pub with_stored : Load → List Call → Load
with_stored l cs = with_seen l (record { calls = cs; count = l.call_count; horizon = l.table_horizon; limits = l.table_limits }) (seen_of l)

-- b is a with its calls stored in another order
pub record OnlyOrder (a b : Load) : Type 0 where
  pub others : b ≡ with_stored a b.calls
  pub stored : Permᴰ (take a.call_count a.calls) (take a.call_count b.calls)
  pub unused : drop a.call_count a.calls ≡ drop a.call_count b.calls

-- a step of a and of b: one answer; sent back, each load is as it was; otherwise the loads are equal, every field
pub record Alike (step : Load → StepResult) (a b : Load) : Type 0 where
  pub answer : (step a).answer ≡ (step b).answer
  pub refused : is_refused (step a).answer ≡ true → ((step a).load ≡ a) × ((step b).load ≡ b)
  pub accepted : is_refused (step a).answer ≡ false → (step a).load ≡ (step b).load

-- the step takes no notice of the stored order
abbrev pub OrderUnread : (Load → StepResult) → Type 0
OrderUnread step = (a b : Load) → OnlyOrder a b → Alike step a b

-- the search is such a step, in full or within any limit on joins
abbrev pub SearchOrderUnread : Type 0
SearchOrderUnread = OrderUnread search_spec

abbrev pub LimitedOrderUnread : Type 0
LimitedOrderUnread = (n : ℕ) → OrderUnread (λ l. step_of (within_spec l n))
