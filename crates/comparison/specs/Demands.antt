-- The three demands, of what was handed in: 1, each step gives a result or the refusal for its first cause; 2, what a list of steps leaves;
-- 3, when best of two lists of steps agrees. Of the load at the end 2 and 3 read only calls, kept list, horizon, mark and best.
-- RULES 8.7, 9, 15.1, 16.
use Rattle.refusal.specs.First.{Answer}
use Rattle.std.specs.Prelude.{◌≡◌, ◌⊎◌, ◌↔◌, true, false, ℕ, ◌+◌, ◌≤◌, ◌<◌, ℤ, pos, negsuc, None, Option, Some}
use mathlib.Core.List.{List, [], ◌∷◌, Memᴰ}
use Rattle.settings.specs.declared.Settings.{Settings}
use Rattle.calls.specs.declared.CallInput.{CallInput}
use Rattle.calls.specs.declared.Call.{Call}
use Rattle.calls.specs.Shown.{table_calls}
use Rattle.profile.specs.declared.Journey.{Journey}
use Rattle.load.specs.declared.Load.{Load}
use Rattle.load.specs.Load.{table_of}
use Rattle.load.specs.Steps.{Opening, opened, open_spec_of}
use Rattle.load.specs.FillStep.{call}
use Rattle.load.specs.Sound.{Opens}
use Rattle.best.specs.Best.{answer_of, kept_of, best_spec, next_spec}
use Rattle.steps.specs.Steps.{Step, stepped, numbers}
use Rattle.steps.specs.Lists.{end_of}
use Rattle.steps.specs.Answered.{Answered, open_numbers, OpeningAnswered}
use Rattle.time.specs.Promises.{Taken as TextTaken, Answered as TextAnswered}
use Rattle.comparison.specs.Order.{EqualsOrBeats, Same}
use Rattle.comparison.specs.Kept.{Holds}
use Rattle.comparison.specs.Best.{BestAt}
use Rattle.comparison.specs.Window.{Shown}
use Rattle.comparison.specs.Taken.{calls_in, State, fresh}
use Rattle.comparison.specs.Services.{Running}
use Rattle.comparison.specs.Feeds.{feed_of}
use Rattle.comparison.specs.Neighbours.{Ordered}
use Rattle.comparison.specs.OfferOrder.{Offered}
use Rattle.comparison.specs.Events.{Within}
use Rattle.comparison.specs.Falls.{Falls, at}
use Rattle.comparison.specs.Causes.{First, numbers_of, opening_causes, causes_of}
use Rattle.comparison.specs.Runs.{Runs, Admitted, Finished}

-- ---- 1: a result, or one of the refusals for its stated cause alone; a refused load comes back unchanged

-- what the program answers to each step of a list
abbrev pub answers_from : Load → List Step → List Answer
answers_from l [] = []
answers_from l (x ∷ xs) = (stepped l x).answer ∷ answers_from (stepped l x).load xs

-- z is the larger of a second and k
abbrev pub LaterOf : ℤ → ℕ → ℤ → Type 0
LaterOf (pos n) k z = ((n ≤ k) × (z ≡ pos k)) ⊎ ((k ≤ n) × (z ≡ pos n))
LaterOf (negsuc n) k z = z ≡ pos k

-- at the second z: none if the load isn't searched, else best of the kept list, up to the horizon; next after a journey is best at that
-- second or at the journey's leave + 1, whichever is larger (RULES 9.1, 9.2)
pub record Queried (l : Load) (z : ℤ) : Type 0 where
  pub unsearched : l.searched ≡ false → answer_of (best_spec l z) ≡ None
  pub searched : l.searched ≡ true → BestAt (kept_of l) l.horizon z (answer_of (best_spec l z))
  pub next : (j : Journey) → (w : ℤ) × LaterOf z (j.leave + 1) w × (next_spec l z j ≡ best_spec l w)

pub record Demand1 : Type 0 where
  -- a time text has its seconds exactly if it is of the form, and every other is refused with 16
  pub texts : TextTaken × TextAnswered
  -- an opening, with dates or without, is answered for the first of its causes
  pub openings : (o : Opening) → First (open_spec_of o).answer (opening_causes o)
  pub opening : (o : Opening) → OpeningAnswered o
  -- so is every step of a list, by what was taken before it; the answers are the only ones, and so is what is taken
  pub lists : (o : Opening) → Opens o → (xs : List Step) → (v : State) × Runs o.settings (fresh o.dates) xs (answers_from (opened o) xs) v
  pub only : (s : Settings) (t : State) (xs : List Step) (rs qs : List Answer) (u v : State) → Runs s t xs rs u → Runs s t xs qs v
      → (rs ≡ qs) × (u ≡ v)
  -- the causes stand in the order of RULES 16.2
  pub order : (s : Settings) (t : State) (x : Step) → numbers_of (causes_of s t x) ≡ numbers t.searched x
  pub opening_order : (o : Opening) → numbers_of (opening_causes o) ≡ open_numbers o.dates
  -- the same of any load, also one that no step made, by what it holds; a refused load comes back unchanged
  pub steps : (l : Load) (x : Step) → Answered l x
  -- queries of the load that any list of steps leaves, at every second
  pub queries : (o : Opening) → Opens o → (xs : List Step) (z : ℤ) → Queried (end_of o xs) z

-- ---- 2: what a list of steps leaves

-- what the program's best answers at the end
abbrev pub answer : Opening → List Step → ℤ → Option Journey
answer s xs z = answer_of (best_spec (end_of s xs) z)

-- the calls of the load
abbrev pub calls : Opening → List Step → List Call
calls s xs = table_calls (table_of (end_of s xs))

-- before a search: the calls taken and not withdrawn, as they are seen, in the order taken; no journey; horizon and mark as the cuts of a
-- full table leave them; best is none
pub record Fills (s : Opening) (xs : List Step) (v : State) : Type 0 where
  pub shown : Shown s.settings v.horizon (calls_in v.taken) (calls s xs)
  pub kept : kept_of (end_of s xs) ≡ []
  pub horizon : (end_of s xs).horizon ≡ v.horizon
  pub limits : (end_of s xs).limits ≡ v.limits
  pub best : (z : ℤ) → answer s xs z ≡ None

-- after it, by the journeys offered, in the order of offers, which says which of equals stays
pub record ListOf (s : Opening) (xs : List Step) (v : State) (offers : List Journey) : Type 0 where
  -- the calls taken and not withdrawn, as they are seen up to the table's horizon, put in order
  pub ordered : Ordered s.settings v.horizon (calls_in v.taken) (calls s xs)
  -- the list is exactly the offers due by its horizon that none other beats, of equals the first offered, in order (RULES 8.7)
  pub holds : Holds (end_of s xs).horizon offers (kept_of (end_of s xs))
  -- horizon and mark: from the table's, as the cuts left them, they change only by a 65th journey as the offers come (RULES 8.6)
  pub falls : Falls [] v.horizon v.limits offers (at (end_of s xs).horizon (end_of s xs).limits)
  -- best of that list, at every second
  pub best : (z : ℤ) → BestAt (kept_of (end_of s xs)) (end_of s xs).horizon z (answer s xs z)

-- after a search that finished: the list is of all that is admitted by what stands taken at the end
pub record Lists (s : Opening) (xs : List Step) (v : State) : Type 0 where
  -- what a search offers; these are the admitted journeys
  pub offers : List Journey
  pub offered : Offered (feed_of s.settings v) offers
  pub admitted : (j : Journey) → Memᴰ j offers ↔ Admitted s xs j
  pub list : ListOf s xs v offers
  -- so each admitted journey due by the horizon is equalled or beaten by one of the list
  pub complete : (j : Journey) → Admitted s xs j → j.arrival ≤ (end_of s xs).horizon
      → (k : Journey) × Memᴰ k (kept_of (end_of s xs)) × EqualsOrBeats k j

-- after a search that was stopped at the limit n: it tested n joins, and its list is of what was offered until then (RULES 11.3)
pub record ListsWithin (s : Opening) (xs : List Step) (v : State) (n : ℕ) : Type 0 where
  pub offers : List Journey
  pub offered : Within (feed_of s.settings v) n offers n false
  pub list : ListOf s xs v offers

-- of any list of steps, which leaves v: not searched, searched by a search that finished, or by one that was stopped at n
abbrev pub Demand2 : Type 0
Demand2 = (s : Opening) (xs : List Step) (rs : List Answer) (v : State) → Opens s → Runs s.settings (fresh s.dates) xs rs v
    → (v.searched ≡ false → Fills s xs v) × (v.searched ≡ true → v.stopped ≡ None → Lists s xs v)
    × ((n : ℕ) → v.stopped ≡ Some n → ListsWithin s xs v n)

-- on a load with dates each call that was taken names a service that was taken and runs on the date of the call's day, by all exceptions
-- that were taken (RULES 4.4)
abbrev pub OnlyRunning : Type 0
OnlyRunning = (s : Opening) (xs : List Step) (rs : List Answer) (v : State) → Opens s → Runs s.settings (fresh s.dates) xs rs v
    → (dates : List ℕ) → s.dates ≡ Some dates → (name : List ℕ) (i : CallInput) → Memᴰ (call name i) v.taken → Running v name i.day

-- ---- 3: when best of two lists of steps agrees

-- every i64 second
abbrev pub Second : ℤ → Type 0
Second (pos n) = n ≤ 9223372036854775807
Second (negsuc n) = n ≤ 9223372036854775807

-- an answer that counts as none up to g: none, or a journey due after g
abbrev pub NoneBy : ℕ → Option Journey → Type 0
NoneBy g None = Unit {0}
NoneBy g (Some j) = g < j.arrival

-- two journeys, due by g, of the same leave, arrival, rides and walk (so `due` is asked of one)
pub record Both (g : ℕ) (r r' : Option Journey) : Type 0 where
  pub j : Journey
  pub j' : Journey
  pub is : r ≡ Some j
  pub is' : r' ≡ Some j'
  pub due : j.arrival ≤ g
  pub same : Same j j'

-- the two answers agree up to g: both count as none, or both are journeys of the same figures
abbrev pub Alike : ℕ → Option Journey → Option Journey → Type 0
Alike g r r' = (NoneBy g r × NoneBy g r') ⊎ Both g r r'

-- each journey that the first admits and that arrives by g is equalled or beaten by one that the second admits
abbrev pub MatchedBy : ℕ → Opening → List Step → Opening → List Step → Type 0
MatchedBy g s xs s' xs' = (j : Journey) → Admitted s xs j → j.arrival ≤ g → (j' : Journey) × Admitted s' xs' j' × EqualsOrBeats j' j

-- g is the earlier of two horizons
abbrev pub Earlier : ℕ → ℕ → ℕ → Type 0
Earlier g h h' = (g ≤ h) × (g ≤ h') × ((g ≡ h) ⊎ (g ≡ h'))

-- of any two lists of steps, on loads of one start, neither left with a stopped search: best agrees at every second up to g exactly if what
-- each admits by g is matched by the other (RULES 15.1). One left unsearched admits none. Horizons are the loads', of which demand 2 speaks
abbrev pub Demand3 : Type 0
Demand3 = (s s' : Opening) (xs xs' : List Step) (g : ℕ) → s.settings.now ≡ s'.settings.now → Opens s → Opens s' → Finished s xs → Finished s' xs'
    → Earlier g (end_of s xs).horizon (end_of s' xs').horizon
    → ((z : ℤ) → Second z → Alike g (answer s xs z) (answer s' xs' z)) ↔ (MatchedBy g s xs s' xs' × MatchedBy g s' xs' s xs)
