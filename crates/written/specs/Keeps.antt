-- Opening and every step keep what a written load needs; the degrees handed in are f64s.
use Rattle.std.specs.Prelude.{ℕ, List, [], ◌∷◌}
use Rattle.calls.specs.declared.CallInput.{CallInput}
use Rattle.calls.specs.declared.CallKey.{CallKey}
use Rattle.load.specs.declared.Load.{Load}
use Rattle.load.specs.Steps.{Opening, opened}
use Rattle.load.specs.FillStep.{FillStep, stop, call, rule, service, exception, filled}
use Rattle.load.specs.Sound.{Sound, Opens}
use Rattle.search.specs.Search.{search_spec}
use Rattle.search.specs.Within.{within_spec}
use Rattle.again.specs.Again.{add_spec_of, withdraw_spec}
use Rattle.steps.specs.Steps.{Step, filling, withdraw, search, limited}
use Rattle.steps.specs.Lists.{end_of}
use Rattle.codec.specs.Kinds.{DegreesHeld}
use Rattle.written.specs.Kept.{Kept, Whole}

-- the degrees handed in with a stop are f64s, as every float of the program is
abbrev pub GivesHeld : FillStep → Type 0
GivesHeld (stop id name parent i) = DegreesHeld i.degrees
GivesHeld (call name i) = Unit {0}
GivesHeld (rule i) = Unit {0}
GivesHeld (service name weekdays start end) = Unit {0}
GivesHeld (exception name date kind) = Unit {0}

abbrev pub AllGive : List Step → Type 0
AllGive [] = Unit {0}
AllGive (filling x ∷ xs) = GivesHeld x × AllGive xs
AllGive (withdraw k ∷ xs) = AllGive xs
AllGive (search ∷ xs) = AllGive xs
AllGive (limited n ∷ xs) = AllGive xs

abbrev pub OpenKept : Type 0
OpenKept = (o : Opening) → Opens o → Kept (opened o)

abbrev pub FillKeeps : Type 0
FillKeeps = (l : Load) (x : FillStep) → Sound l → Kept l → GivesHeld x → Kept (filled l x).load

abbrev pub SearchKeeps : Type 0
SearchKeeps = (l : Load) → Kept l → Kept (search_spec l).load

abbrev pub WithinKeeps : Type 0
WithinKeeps = (l : Load) (n : ℕ) → Kept l → Kept (within_spec l n).load

abbrev pub AddKeeps : Type 0
AddKeeps = (l : Load) (name : List ℕ) (i : CallInput) → Sound l → Kept l → Kept (add_spec_of l name i).load

abbrev pub WithdrawKeeps : Type 0
WithdrawKeeps = (l : Load) (k : CallKey) → Sound l → Kept l → Kept (withdraw_spec l k).load

-- the load at the end of any list of steps
abbrev pub EndWhole : Type 0
EndWhole = (o : Opening) (xs : List Step) → Opens o → AllGive xs → Whole (end_of o xs)
