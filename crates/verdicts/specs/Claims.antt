-- What is claimed of verdicts: of every load which of them is given when; of every list of steps with a finished search, that what they
-- say is so.
use Rattle.std.specs.Prelude.{◌≡◌, ◌↔◌, Bool, true, false, ℕ, ◌≤◌, ◌<◌, length, get_or, None, Some}
use mathlib.Core.List.{List, [], ◌∷◌, Memᴰ}
use Rattle.profile.specs.declared.Journey.{Journey}
use Rattle.profile.specs.Figures.{covers}
use Rattle.profile.specs.Journeys.{no_journey, journey_figures}
use Rattle.rules.specs.declared.Rule.{Rule}
use Rattle.rules.specs.Rules.{blank_rule}
use Rattle.transfer.specs.declared.Ends.{Ends}
use Rattle.transfer.specs.Choice.{chosen}
use Rattle.load.specs.declared.Load.{Load}
use Rattle.load.specs.Steps.{Opening}
use Rattle.load.specs.Sound.{Opens}
use Rattle.search.specs.Timetable.{timetable_of}
use Rattle.best.specs.Best.{kept_of}
use Rattle.steps.specs.Steps.{Step}
use Rattle.steps.specs.Lists.{end_of}
use Rattle.comparison.specs.Runs.{Admitted}
use Rattle.connection.specs.declared.Connection.{Connection}
use Rattle.connection.specs.declared.Cause.{Cause}
use Rattle.connection.specs.Changes.{number_in}
use Rattle.listing.specs.declared.Verdict.{Verdict}
use Rattle.listing.specs.declared.Verdict.TheVariants.{NotFinished, Late, Listed, AsGood, Beaten, Uncovered, Impossible}
use Rattle.verdict.specs.Verdicts.{is_finished, journey_in, causes, cause_of, verdict_of}
use Rattle.verdicts.specs.Makes.{Makes}

-- ---- of every load

-- no test of the list holds
abbrev pub AllFail : List (Bool × Cause) → Type 0
AllFail [] = Unit {0}
AllFail (t ∷ ts) = (t.0 ≡ false) × AllFail ts

-- which verdict is given when. The causes are tests on the load and the connection; none reads the verdict
pub record GivenWhen (l : Load) (c : Connection) : Type 0 where
  pub not_finished : is_finished l ≡ false ↔ verdict_of l c ≡ NotFinished
  pub impossible : (x : Cause) → ((is_finished l ≡ true) × (cause_of l c ≡ Some x)) ↔ verdict_of l c ≡ Impossible x
  pub late : ((is_finished l ≡ true) × (cause_of l c ≡ None) × (l.horizon < (journey_in l c).arrival)) ↔ verdict_of l c ≡ Late
  pub free : cause_of l c ≡ None ↔ AllFail (causes l c)

abbrev pub AlwaysGiven : Type 0
AlwaysGiven = (l : Load) (c : Connection) → GivenWhen l c

-- ---- of every list of steps with a finished search

-- no cause, exactly if the connection makes an admitted journey; and that is the one that is judged
pub record CausesRight (o : Opening) (xs : List Step) (c : Connection) : Type 0 where
  pub makes : cause_of (end_of o xs) c ≡ None → Makes (timetable_of (end_of o xs)) c (journey_in (end_of o xs) c)
  pub free : (j : Journey) → Makes (timetable_of (end_of o xs)) c j → cause_of (end_of o xs) c ≡ None
  pub only : (j : Journey) → Makes (timetable_of (end_of o xs)) c j → j ≡ journey_in (end_of o xs) c
  -- it is one of those that demands 2 and 3 speak of, which are told by what was handed in
  pub admitted : (j : Journey) → Makes (timetable_of (end_of o xs)) c j → Admitted o xs j

-- the connection makes a journey exactly if it has no cause and that journey is the one that is judged
abbrev pub CausesExact : Opening → List Step → Connection → Type 0
CausesExact o xs c = (j : Journey)
    → Makes (timetable_of (end_of o xs)) c j ↔ ((cause_of (end_of o xs) c ≡ None) × (j ≡ journey_in (end_of o xs) c))

-- that what is made is admitted, is told of an opening that is taken
abbrev pub CausesAdmitted : Type 0
CausesAdmitted = (o : Opening) (xs : List Step) (c : Connection) → is_finished (end_of o xs) ≡ true
    → CausesExact o xs c × (Opens o → CausesRight o xs c)

abbrev pub placed : List Journey → ℕ → Journey
placed ks i = get_or ks i no_journey

-- what a verdict by the list says of j: the journey at that place is j; it has j's figures, and j is not in the list; or it equals or
-- beats j, and none of the list has j's figures
pub data Says (ks : List Journey) (j : Journey) : Verdict → Type 0 where
  listed : (i : ℕ) → i < length ks → placed ks i ≡ j → Says ks j (Listed i)
  as_good : (i : ℕ) → i < length ks → journey_figures (placed ks i) ≡ journey_figures j → (Memᴰ j ks → ⊥) → Says ks j (AsGood i)
  beaten : (i : ℕ) → i < length ks → covers (journey_figures (placed ks i)) (journey_figures j) ≡ true
      → ((k : Journey) → Memᴰ k ks → journey_figures k ≡ journey_figures j → ⊥) → Says ks j (Beaten i)

-- a connection without a cause that is due by the horizon is listed, equalled or beaten, by a member of the list
abbrev pub DueIsCovered : Type 0
DueIsCovered = (o : Opening) (xs : List Step) (c : Connection) → Opens o → is_finished (end_of o xs) ≡ true
    → cause_of (end_of o xs) c ≡ None
    → (journey_in (end_of o xs) c).arrival ≤ (end_of o xs).horizon → Says (kept_of (end_of o xs)) (journey_in (end_of o xs) c) (verdict_of (end_of o xs) c)

-- so the one verdict that would contradict the list, a connection without a cause that is due and that nothing of the list equals or
-- beats, is never given
abbrev pub NeverUncovered : Type 0
NeverUncovered = (o : Opening) (xs : List Step) (c : Connection) → Opens o → verdict_of (end_of o xs) c ≡ Uncovered → ⊥

-- the number of the rule that holds is its place among the rules
abbrev pub RuleNumbered : Type 0
RuleNumbered = (e : Ends) (rs : List Rule) (r : Rule) → chosen e rs ≡ Some r
    → (number_in rs (Some r) < length rs) × (get_or rs (number_in rs (Some r)) blank_rule ≡ r)
