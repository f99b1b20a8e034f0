-- Request 12, beside the demands: what a limited search tells, that a finished one is the full search, the load of a stopped one, its
-- margin, and a larger limit.
-- RULES 11.
use Rattle.refusal.specs.First.{Answer}
use Rattle.refusal.specs.declared.Accepted.TheVariants.{Taken}
use Rattle.std.specs.Prelude.{◌≡◌, ◌↔◌, Bool, true, false, ℕ, ◌+◌, ◌-◌, ◌≤◌, min, pos, None, Some, Option, Ok}
use mathlib.Core.List.{List, ◌∷◌, ◌++◌, Memᴰ}
use Rattle.settings.specs.declared.Settings.{Settings}
use Rattle.profile.specs.declared.Journey.{Journey}
use Rattle.load.specs.declared.Load.{Load}
use Rattle.load.specs.Steps.{Opening}
use Rattle.load.specs.Sound.{Opens}
use Rattle.best.specs.Best.{answer_of, best_spec}
use Rattle.margin.specs.Stopped.{margin_spec}
use Rattle.search.specs.Search.{search_spec}
use Rattle.search.specs.Within.{Answered, within_spec}
use Rattle.again.specs.Again.{unsearched_of}
use Rattle.steps.specs.Steps.{Step}
use Rattle.steps.specs.Lists.{end_of}
use Rattle.comparison.specs.Taken.{State, fresh}
use Rattle.comparison.specs.Admitted.{Feed}
use Rattle.comparison.specs.Feeds.{feed_of}
use Rattle.comparison.specs.OfferOrder.{Offer, Offered}
use Rattle.comparison.specs.Events.{Event, offer, Listed, joins_in, offers_in, Within, Earliest}
use Rattle.comparison.specs.Runs.{Runs}

-- the program's best for second 0
abbrev pub at_zero_of : Load → Option Journey
at_zero_of l = answer_of (best_spec l (pos 0))

-- the load has an answer for second 0, and none later than j
pub record NoLater (l : Load) (j : Journey) : Type 0 where
  pub j' : Journey
  pub there : at_zero_of l ≡ Some j'
  pub no_later : j'.arrival ≤ j.arrival

-- a limited search of the load that a list of steps leaves
abbrev pub limited_by : Opening → List Step → ℕ → Answered
limited_by o xs n = within_spec (end_of o xs) n

-- "A stopped answer for second 0 also gives a margin: its arrival less the earliest arrival, walk included, of any ride in the table at a
-- target, and the finished answer, where the full search is accepted, is at most that much earlier." The stopped load l answers j; F is
-- what was taken
pub record MarginOf (F : Feed) (l : Load) (j : Journey) : Type 0 where
  pub earliest : ℕ
  pub is_earliest : Earliest F earliest
  pub no_earlier : earliest ≤ j.arrival
  pub margin : margin_spec l ≡ Some (j.arrival - earliest)
  pub finished : (search_spec (unsearched_of l)).answer ≡ Ok Taken
      → (w : NoLater (search_spec (unsearched_of l)).load j) × (j.arrival ≤ w.j'.arrival + (j.arrival - earliest))

pub record Limits : Type 0 where
  -- "the result carries the number of joins tested .. It says finished when no untested join is left, and stopped otherwise": by what was
  -- handed in
  pub told : (o : Opening) (xs : List Step) (rs : List Answer) (v : State) (n : ℕ) → Opens o → Runs o.settings (fresh o.dates) xs rs v
      → (limited_by o xs n).answer ≡ Ok Taken → (os : List Journey)
      × Within (feed_of o.settings v) n os (limited_by o xs n).joins (limited_by o xs n).finished
  -- a journey is offered exactly if at most n joins stand in front of it
  pub offered_if : (s : Settings) (t : State) (n : ℕ) (os : List Journey) (k : ℕ) (f : Bool) (w : Within (feed_of s t) n os k f)
      (x : Offer) (fore rest : List Event)
      → w.events ≡ fore ++ offer x ∷ rest → Memᴰ x (offers_in w.front) ↔ (joins_in fore ≤ n)
  -- so many, of all joins; and the journeys offered by a finished one are all
  pub counted : (s : Settings) (t : State) (n : ℕ) (os : List Journey) (k : ℕ) (f : Bool) (es : List Event)
      → Within (feed_of s t) n os k f → Listed (feed_of s t) es
      → (k ≡ min n (joins_in es)) × ((f ≡ true) ↔ (joins_in es ≤ n))
  pub all_offered : (s : Settings) (t : State) (n : ℕ) (os : List Journey) (k : ℕ) → Within (feed_of s t) n os k true
      → Offered (feed_of s t) os
  -- a finished one is the full search; a stopped one holds its limit
  pub full : (o : Opening) (xs : List Step) (n : ℕ) → (limited_by o xs n).answer ≡ Ok Taken → (limited_by o xs n).finished ≡ true
      → search_spec (end_of o xs) ≡ record { answer = Ok Taken; load = (limited_by o xs n).load }
  pub stops : (o : Opening) (xs : List Step) (n : ℕ) → (limited_by o xs n).answer ≡ Ok Taken → (limited_by o xs n).finished ≡ false
      → (limited_by o xs n).load.limit ≡ Some n
  -- a stopped load is each time the search of the remaining load within its limit, and no finished one
  pub afresh : (o : Opening) (xs : List Step) (n : ℕ) → (end_of o xs).limit ≡ Some n
      → within_spec (unsearched_of (end_of o xs)) n ≡ record { answer = Ok Taken; load = end_of o xs; joins = n; finished = false }
  pub margin : (o : Opening) (xs : List Step) (rs : List Answer) (v : State) (j : Journey) → Opens o
      → Runs o.settings (fresh o.dates) xs rs v
      → (n : ℕ) → (end_of o xs).limit ≡ Some n → at_zero_of (end_of o xs) ≡ Some j → MarginOf (feed_of o.settings v) (end_of o xs) j
  -- "With nothing found yet there is no margin"; nor has any other load one
  pub no_margin : (l : Load) → at_zero_of l ≡ None → margin_spec l ≡ None
  pub no_margin_finished : (l : Load) → l.limit ≡ None → margin_spec l ≡ None
  -- "Where neither run is refused, a larger limit never turns an answer for second 0 into none or into a later arrival"
  pub larger : (o : Opening) (xs : List Step) (n m : ℕ) (j : Journey) → n ≤ m → (limited_by o xs n).answer ≡ Ok Taken
      → (limited_by o xs m).answer ≡ Ok Taken
      → at_zero_of (limited_by o xs n).load ≡ Some j → NoLater (limited_by o xs m).load j
