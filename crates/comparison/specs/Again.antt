-- Request 11, beside the demands: a call withdrawn straight after it was taken, the horizon, the list of a load that is searched again,
-- and 24. RULES 10.
use Rattle.refusal.specs.First.{Answer}
use Rattle.refusal.specs.declared.Accepted.TheVariants.{Taken}
use Rattle.std.specs.Prelude.{◌≡◌, ◌↔◌, true, List, [], ◌∷◌, ℕ, ◌≤◌, ◌<◌, None, Err, Ok}
use Rattle.refusal.specs.declared.Refusal.TheVariants.{Neighbours, AlreadySearched, CallUnknown}
use Rattle.settings.specs.declared.Settings.{Settings}
use Rattle.calls.specs.declared.CallInput.{CallInput}
use Rattle.calls.specs.declared.CallKey.{CallKey}
use Rattle.withdrawal.specs.Removal.{key_of}
use Rattle.load.specs.Steps.{Opening}
use Rattle.load.specs.FillStep.{call}
use Rattle.load.specs.Sound.{Opens}
use Rattle.search.specs.Search.{search_spec}
use Rattle.again.specs.Again.{unsearched_of}
use Rattle.again.specs.Claims.{ClosedSame}
use Rattle.steps.specs.Steps.{Step, filling, withdraw, stepped}
use Rattle.steps.specs.Lists.{end_of}
use Rattle.steps.specs.Withdrawn.{EndTakenBack}
use Rattle.comparison.specs.Taken.{calls_in, State, fresh, shut}
use Rattle.comparison.specs.Withdrawal.{NoneSuch}
use Rattle.comparison.specs.Causes.{First, causes_of}
use Rattle.comparison.specs.Runs.{Runs}
use Rattle.calls.specs.Sizes.{no_trip}

-- the call, and the withdrawal of its trip, day and sequence
abbrev pub there_and_back_of : List ℕ → CallInput → List Step
there_and_back_of name i = filling (call name i) ∷ withdraw (key_of i) ∷ []

pub record Withdrawals : Type 0 where
  -- "Withdrawing straight after a call was answered taken gives back the load exactly, save that services stay closed, provided that
  -- taking it didn't shrink the horizon": after any list, searched or not, what was taken; and the load
  pub back : (o : Opening) (xs : List Step) (rs : List Answer) (t v : State) (name : List ℕ) (i : CallInput) → Opens o
      → Runs o.settings (fresh o.dates) xs rs t
      → Runs o.settings t (there_and_back_of name i) (Ok Taken ∷ Ok Taken ∷ []) v → v.horizon ≡ t.horizon → v ≡ shut t
  pub taken_back : EndTakenBack
  -- services that are closed already, as without dates or after an answered call, are given back too
  pub exactly : ClosedSame
  -- "It never widens an unsearched load's horizon": the table's never rises, by no list of steps, searched or not
  pub never_wider : (s : Settings) (t v : State) (xs : List Step) (rs : List Answer) → Runs s t xs rs v → v.horizon ≤ t.horizon
  -- "The list is each time the one a fresh search of the remaining load gives": of the load gone back to the table, its horizon and its
  -- mark; `Limits` says it of a stopped load
  pub afresh : (o : Opening) (xs : List Step) → (end_of o xs).searched ≡ true → (end_of o xs).limit ≡ None
      → search_spec (unsearched_of (end_of o xs)) ≡ record { answer = Ok Taken; load = end_of o xs }
  -- "15 no longer meets a call"
  pub no_15 : (s : Settings) (t : State) (name : List ℕ) (i : CallInput)
      → First (Err AlreadySearched) (causes_of s t (filling (call name i))) → ⊥
  -- 24 exactly if the table has no such call
  pub unknown : (s : Settings) (t : State) (k : CallKey) (a : Answer) → First a (causes_of s t (withdraw k)) → k.trip < no_trip → k.day ≤ 2
      → (a ≡ Err CallUnknown) ↔ NoneSuch s t.horizon k (calls_in t.taken)
  -- no withdrawal is answered with 14
  pub in_order : (o : Opening) (xs : List Step) (k : CallKey) → (stepped (end_of o xs) (withdraw k)).answer ≡ Err Neighbours → ⊥
