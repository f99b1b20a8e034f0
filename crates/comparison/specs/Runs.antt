-- A whole list of steps: each is answered for the first of its causes, and its answer says what stands taken after it, by which the next
-- one is answered. No load is read.
-- RULES 1.2, 10, 11.3, 15.1.
use Rattle.refusal.specs.First.{Answer}
use Rattle.refusal.specs.declared.Accepted.TheVariants.{Taken, Outside}
use Rattle.std.specs.Prelude.{◌≡◌, Bool, true, List, [], ◌∷◌, ℕ, None, Some, Option, Err, Ok}
use Rattle.refusal.specs.declared.Refusal.{Refusal}
use Rattle.settings.specs.declared.Settings.{Settings}
use Rattle.stops.specs.declared.StopInput.{StopInput}
use Rattle.calls.specs.declared.CallInput.{CallInput}
use Rattle.calls.specs.declared.CallKey.{CallKey}
use Rattle.rules.specs.declared.Rule.{Rule}
use Rattle.profile.specs.declared.Journey.{Journey}
use Rattle.load.specs.Steps.{Opening}
use Rattle.load.specs.FillStep.{stop, call, rule, service, exception}
use Rattle.steps.specs.Steps.{Step, filling, withdraw, search, limited}
use Rattle.comparison.specs.Taken.{calls_in, State, fresh, more, up_to, done, limited_to, shut}
use Rattle.comparison.specs.Services.{Resting}
use Rattle.comparison.specs.Admitted.{Admits}
use Rattle.comparison.specs.Feeds.{feed_of}
use Rattle.comparison.specs.Withdrawal.{Withdrawn}
use Rattle.comparison.specs.Events.{Within}
use Rattle.comparison.specs.Horizon.{Fits}
use Rattle.comparison.specs.Causes.{First, causes_of}

-- t after the search again that a step on a searched load brings: as it is where it holds no limit, searched in full or not at all; else
-- searched within that limit, which may finish now
pub data Again (s : Settings) (t : State) : State → Type 0 where
  in_full : t.stopped ≡ None → Again s t t
  within : {n tested : ℕ} {os : List Journey} {finishes : Bool} → t.stopped ≡ Some n → Within (feed_of s t) n os tested finishes
      → Again s t (limited_to n finishes t)

-- `After s t x a u`: where t stands taken, the step x, answered a, leaves u. A call and a withdrawal on a searched load have it searched
-- again, which takes nothing more, but a stopped search may finish then (`Again`)
pub data After (s : Settings) (t : State) : Step → Answer → State → Type 0 where
  sent_back : {x : Step} {r : Refusal} → After s t x (Err r) t
  a_stop : {id : List ℕ} {name parent : Option (List ℕ)} {i : StopInput}
      → After s t (filling (stop id name parent i)) (Ok Taken) (more t (stop id name parent i))
  a_rule : {r : Rule} → After s t (filling (rule r)) (Ok Taken) (more t (rule r))
  -- an answered call closes the services; a cut that it made stays, also where it is outside after it
  a_call : {name : List ℕ} {i : CallInput} {h m : ℕ} {u : State} → Fits s (calls_in t.taken) i t.horizon t.limits (Ok Taken) h m
      → Again s (up_to (more t (call name i)) h m) u → After s t (filling (call name i)) (Ok Taken) (shut u)
  -- of one whose service doesn't run the times are unread
  resting : {name : List ℕ} {i : CallInput} → Resting t name i.day → After s t (filling (call name i)) (Ok Outside) (shut t)
  outside : {name : List ℕ} {i : CallInput} {h m : ℕ} {u : State} → (Resting t name i.day → ⊥)
      → Fits s (calls_in t.taken) i t.horizon t.limits (Ok Outside) h m
      → Again s (up_to t h m) u → After s t (filling (call name i)) (Ok Outside) (shut u)
  a_service : {name : List ℕ} {weekdays start end : ℕ}
      → After s t (filling (service name weekdays start end)) (Ok Taken) (more t (service name weekdays start end))
  an_exception : {name : List ℕ} {date kind : ℕ}
      → After s t (filling (exception name date kind)) (Ok Taken) (more t (exception name date kind))
  a_withdrawal : {k : CallKey} {u v : State} → Withdrawn s t k u → Again s u v → After s t (withdraw k) (Ok Taken) v
  a_search : After s t search (Ok Taken) (done None t)
  a_limited : {n tested : ℕ} {os : List Journey} {finishes : Bool} → Within (feed_of s t) n os tested finishes
      → After s t (limited n) (Ok Taken) (limited_to n finishes t)

-- `Runs s t xs rs v`: where t stands taken, the steps xs are answered rs, each for the first of its causes, and leave v
pub data Runs (s : Settings) : State → List Step → List Answer → State → Type 0 where
  end : {t : State} → Runs s t [] [] t
  step : {t u v : State} {x : Step} {xs : List Step} {a : Answer} {rs : List Answer}
      → First a (causes_of s t x) → After s t x a u → Runs s u xs rs v → Runs s t (x ∷ xs) (a ∷ rs) v

-- j is admitted by the list of steps, which leaves a searched load: by the stops, rules and calls that stand taken at the end, as the
-- window and the cuts leave them (RULES 8.3, 15.1). These are what the last search searched: after a search only a call that is taken,
-- withdrawn, or outside after a cut alters them, and each has the load searched again
pub record Admitted (o : Opening) (xs : List Step) (j : Journey) : Type 0 where
  pub answers : List Answer
  pub end : State
  pub runs : Runs o.settings (fresh o.dates) xs answers end
  pub searched : end.searched ≡ true
  pub admits : Admits (feed_of o.settings end) j

-- the list of steps doesn't leave a stopped search
pub record Finished (o : Opening) (xs : List Step) : Type 0 where
  pub answers : List Answer
  pub end : State
  pub runs : Runs o.settings (fresh o.dates) xs answers end
  pub finished : end.stopped ≡ None
