-- A dated load keeps the list, horizon and mark of the load without dates that is handed only the calls of running services.
use Rattle.std.specs.Prelude.{◌≡◌, true, false, List, [], ◌∷◌, ◌++◌, ℕ, Err}
use Rattle.refusal.specs.declared.Refusal.TheVariants.{AlreadySearched}
use Rattle.refusal.specs.First.{is_refused, Answer}
use Rattle.settings.specs.declared.Settings.{Settings}
use Rattle.calls.specs.declared.CallInput.{CallInput}
use Rattle.week.specs.declared.Running.{Running}
use Rattle.week.specs.declared.Running.TheVariants.{Unknown, Rests, Runs}
use Rattle.week.specs.Weeks.{is_dated, undated_week, running}
use Rattle.load.specs.declared.Load.{Load}
use Rattle.load.specs.Load.{with_week}
use Rattle.load.specs.Steps.{undated, dated, opened}
use Rattle.load.specs.FillStep.{stop, call, rule, service, exception}
use Rattle.best.specs.Best.{kept_of}
use Rattle.steps.specs.Steps.{Step, filling, withdraw, search, limited, stepped}
use Rattle.steps.specs.Lists.{next, handed, end_of}

abbrev pub if_runs : Running → Step → List Step
if_runs Unknown x = []
if_runs Rests x = []
if_runs Runs x = x ∷ []

-- what the load without dates is handed of a step: no service or exception; of the calls, those of a service that runs on the call's day;
-- each withdrawal
abbrev pub passed : Load → Step → List Step
passed l (filling (stop id name parent i)) = filling (stop id name parent i) ∷ []
passed l (filling (call name i)) = if_runs (running l.week name i.day) (filling (call [] i))
passed l (filling (rule i)) = filling (rule i) ∷ []
passed l (filling (service name weekdays start end)) = []
passed l (filling (exception name date kind)) = []
passed l (withdraw k) = withdraw k ∷ []
passed l search = search ∷ []
passed l (limited n) = limited n ∷ []

-- of a list
abbrev pub passed_of : Load → List Step → List Step
passed_of l [] = []
passed_of l (x ∷ xs) = passed l x ++ passed_of (next l x) xs

-- what the load answers to the steps that are passed on; and to all steps of a list
abbrev pub answers_to : Load → List Step → List Answer
answers_to l [] = []
answers_to l (x ∷ xs) = (stepped l x).answer ∷ answers_to (next l x) xs

abbrev pub same_for : List Step → Answer → List Answer
same_for [] a = []
same_for (x ∷ xs) a = a ∷ []

abbrev pub passed_answers : Load → List Step → List Answer
passed_answers l [] = []
passed_answers l (x ∷ xs) = same_for (passed l x) (stepped l x).answer ++ passed_answers (next l x) xs

-- after any list, the two loads differ in their weeks alone, and the steps that both were handed were answered alike
pub record SameDated (s : Settings) (dates : List ℕ) (xs : List Step) : Type 0 where
  pub load : with_week (end_of (dated s dates) xs) undated_week ≡ end_of (undated s) (passed_of (opened (dated s dates)) xs)
  pub answers : passed_answers (opened (dated s dates)) xs ≡ answers_to (opened (undated s)) (passed_of (opened (dated s dates)) xs)
  -- so do list, horizon and mark
  pub list : kept_of (end_of (dated s dates) xs) ≡ kept_of (end_of (undated s) (passed_of (opened (dated s dates)) xs))
  pub horizon : (end_of (dated s dates) xs).horizon ≡ (end_of (undated s) (passed_of (opened (dated s dates)) xs)).horizon
  pub limits : (end_of (dated s dates) xs).limits ≡ (end_of (undated s) (passed_of (opened (dated s dates)) xs)).limits

abbrev pub DatedSame : Type 0
DatedSame = (s : Settings) (dates : List ℕ) (xs : List Step) → SameDated s dates xs

-- a service taken never changes the answer of an earlier call, for there is none: once a call was answered, each service and each exception
-- meets 15, whatever was handed in between
abbrev pub LateServices : Type 0
LateServices = (l : Load) (called : List ℕ) (i : CallInput) (xs : List Step) → is_dated l.week ≡ true
    → is_refused (stepped l (filling (call called i))).answer ≡ false
    → ((name : List ℕ) (weekdays start end : ℕ) →
    (stepped (handed (next l (filling (call called i))) xs) (filling (service name weekdays start end))).answer ≡ Err AlreadySearched)
    × ((name : List ℕ) (date kind : ℕ) → (stepped (handed (next l (filling (call called i))) xs)
    (filling (exception name date kind))).answer ≡ Err AlreadySearched)

-- on a load without dates the service's name is unread, and no service or exception is taken
abbrev pub NameUnread : Type 0
NameUnread = (l : Load) (name : List ℕ) (i : CallInput) → is_dated l.week ≡ false
    → stepped l (filling (call name i)) ≡ stepped l (filling (call [] i))
