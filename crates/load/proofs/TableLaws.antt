-- The table lemma: after any steps the table is the calls answered taken, as the window shows them at its horizon.
use Rattle.std.specs.Prelude.{None, Option}
use Prim.Native.Nat.{ℕ, ◌+◌, ◌≤◌}
use mathlib.Core.Path.{◌≡◌, refl, sym, ap, ◌∙◌}
use mathlib.Core.Bool.{Bool, true, false, cond}
use mathlib.Core.Logic.{◌⊎◌, inl, inr, ⊎_elim}
use mathlib.Core.List.{List, [], ◌∷◌, ◌++◌, append_assoc, append-nil}
use native.Mathlib.Omega.{arith}
use Rattle.refusal.specs.First.{is_refused, is_taken}
use Rattle.settings.specs.declared.Settings.{Settings}
use Rattle.settings.specs.Settings.{canonical_of}
use lib.ListN.{set}
use Rattle.stops.specs.declared.StopInput.{StopInput}
use Rattle.stops.specs.Taken.{stop_of}
use Rattle.calls.specs.declared.CallInput.{CallInput}
use Rattle.calls.specs.declared.Table.{Table}
use Rattle.calls.specs.Calls.{window}
use Rattle.calls.specs.Shown.{windowed, table_calls, Shows, taken_of, Meets}
use Rattle.calls.proofs.ShownLaws.{step-shows, refused-same}
use Rattle.calls.proofs.FallLaws as fall
use Rattle.calls.proofs.FallLaws.{outside-same}
use Rattle.rules.specs.declared.Rule.{Rule}
use Rattle.week.specs.declared.Week.{Week}
use Rattle.week.specs.Weeks.{closed_week}
use Rattle.load.specs.declared.Load.{Load}
use Rattle.load.specs.declared.StepResult.{StepResult}
use Rattle.load.specs.Load.{empty_of, table_of, with_table, with_stops, with_rules, with_week}
use Rattle.load.specs.Steps.{Opening, opened, station_in, stop_answer, stop_spec, call_fitted, plain_call, closed_load, closing, call_spec}
use Rattle.load.specs.Steps.{rule_answer, rule_spec, service_spec, exception_spec}
use Rattle.load.specs.FillStep.{FillStep, stop, call, rule, service, exception, filled, filled_by}
use Rattle.load.specs.Sound.{Sound}
use Rattle.load.specs.Table.{taken_call, taken_calls, TableLemma, OneOfSeven, NeverRises, FallsOnlyFull, OutsideUnchanged}
use Rattle.load.proofs.StepLaws.{Called, without, goes_on, stays_out, sent_back, called, call-undated}
use Rattle.load.proofs.SoundLaws.{open-sound, fill-keeps-sound}

-- what two loads share, a choice between them has
either_same : {X : Type 0} (f : Load → X) (m l : Load) (b : Bool) → f m ≡ f l → f (cond b m l) ≡ f l
either_same f m l true e = e
either_same f m l false e = refl

-- ---- what a step leaves

-- a step keeps the settings, and a stop or rule keeps the table
plain-table : (l : Load) (i : CallInput) → table_of (plain_call l i).load ≡ (call_fitted l i).table
unfolding plain_call
plain-table l i = go (is_refused (call_fitted l i).answer) refl
  where
    go : (b : Bool) → is_refused (call_fitted l i).answer ≡ b
        → table_of (cond b l (with_table l (call_fitted l i).table)) ≡ (call_fitted l i).table
    go true e = sym (refused-same l.settings l.searched l.stop_count (table_of l) i e)
    go false e = refl

-- closing the services keeps the table, the settings and what is seen
pub closing_same : {X : Type 0} (f : Load → X) (l : Load) (i : CallInput) → ((m : Load) (w : Week) → f (with_week m w) ≡ f m)
    → f (closing l (plain_call l i)).load ≡ f (plain_call l i).load
unfolding plain_call
closing_same f l i k = go (is_refused (call_fitted l i).answer)
  where
    go : (b : Bool) → f (cond b l (with_week (cond b l (with_table l (call_fitted l i).table)) (closed_week l.week)))
        ≡ f (cond b l (with_table l (call_fitted l i).table))
    go true = refl
    go false = k (with_table l (call_fitted l i).table) (closed_week l.week)

-- a call leaves what its week and its gate say: the table of the call's own step, or the table as it was
pub call-left : {X : Type 0} (f : Load → X) (l : Load) (name : List ℕ) (i : CallInput) → ((m : Load) (w : Week) → f (with_week m w) ≡ f m)
    → (f (call_spec l name i).load ≡ f (plain_call l i).load)
    ⊎ ((f (call_spec l name i).load ≡ f l) × (is_taken (call_spec l name i).answer ≡ false))
call-left f l name i k = go _ (called l name i)
  where
    go : (r : StepResult) → Called l name i r → (f r.load ≡ f (plain_call l i).load) ⊎ ((f r.load ≡ f l) × (is_taken r.answer ≡ false))
    go _ (without d) = inl refl
    go _ (goes_on d e) = inl (closing_same f l i k)
    go _ (stays_out d e) = inr (k l (closed_week l.week), refl)
    go _ (sent_back d r e) = inr (refl, refl)

-- the load with one stop or rule more
abbrev with_stop : Load → List ℕ → Option (List ℕ) → Option (List ℕ) → StopInput → Load
with_stop l id name parent i = with_stops l (set l.stops l.stop_count (stop_of id name (station_in l parent) i)) (l.stop_count + 1)

abbrev ruled : Load → Rule → Load
ruled l i = with_rules l (set l.rules l.rule_count i) (l.rule_count + 1)

stop-table : (l : Load) (id : List ℕ) (name parent : Option (List ℕ)) (i : StopInput)
    → table_of (stop_spec l id name parent i).load ≡ table_of l
unfolding stop_spec
stop-table l id name parent i = either_same table_of (with_stop l id name parent i) l (is_taken (stop_answer l id name parent i)) refl

rule-table : (l : Load) (i : Rule) → table_of (rule_spec l i).load ≡ table_of l
unfolding rule_spec
rule-table l i = either_same table_of (ruled l i) l (is_taken (rule_answer l i)) refl

service-table : (l : Load) (name : List ℕ) (weekdays start end : ℕ) → table_of (service_spec l name weekdays start end).load ≡ table_of l
unfolding service_spec
service-table l name weekdays start end = refl

exception-table : (l : Load) (name : List ℕ) (date kind : ℕ) → table_of (exception_spec l name date kind).load ≡ table_of l
unfolding exception_spec
exception-table l name date kind = refl

abbrev settings_of : Load → Settings
settings_of l = l.settings

plain-settings : (l : Load) (i : CallInput) → (plain_call l i).load.settings ≡ l.settings
unfolding plain_call
plain-settings l i = either_same settings_of l (with_table l (call_fitted l i).table) (is_refused (call_fitted l i).answer) refl

-- what a call's own step keeps, the call keeps
pub call-keeps : {X : Type 0} (f : Load → X) (l : Load) (name : List ℕ) (i : CallInput) → ((m : Load) (w : Week) → f (with_week m w) ≡ f m)
    → f (plain_call l i).load ≡ f l → f (call_spec l name i).load ≡ f l
call-keeps f l name i k e = ⊎_elim (λ q. q ∙ e) (λ q. q.0) (call-left f l name i k)

-- a step keeps the settings
pub fill-settings : (l : Load) (x : FillStep) → (filled l x).load.settings ≡ l.settings
unfolding stop_spec rule_spec service_spec exception_spec
fill-settings l (stop id name parent i) =
    either_same settings_of (with_stop l id name parent i) l (is_taken (stop_answer l id name parent i)) refl
fill-settings l (call name i) = call-keeps settings_of l name i (λ m w. refl) (plain-settings l i)
fill-settings l (rule i) = either_same settings_of (ruled l i) l (is_taken (rule_answer l i)) refl
fill-settings l (service name weekdays start end) = refl
fill-settings l (exception name date kind) = refl

-- ---- the table shows the calls taken

abbrev pub ShowsIn : Load → List CallInput → Type 0
ShowsIn l is = Shows l.settings (table_of l) is

-- the answer of the call's own step is that of its table
plain-taken : (l : Load) (i : CallInput)
    → taken_of l.settings l.searched l.stop_count (table_of l) i ≡ cond (is_taken (plain_call l i).answer) (i ∷ []) []
unfolding plain_call
plain-taken l i = refl

same-shows : (l m : Load) (is : List CallInput) → m.settings ≡ l.settings → table_of m ≡ table_of l → ShowsIn l is → ShowsIn m (is ++ [])
same-shows l m is es et q =
    ap table_calls et ∙ q ∙ (λ k. windowed (sym es k) (sym et k).horizon (sym (append-nil is) k))

plain-shows : (l : Load) (i : CallInput) (is : List CallInput) → Sound l → ShowsIn l is
    → ShowsIn (plain_call l i).load (is ++ cond (is_taken (plain_call l i).answer) (i ∷ []) [])
plain-shows l i is s q =
    ap table_calls (plain-table l i)
    ∙ step-shows l.settings l.searched l.stop_count (table_of l) i is s.table q
    ∙ (λ k. windowed (sym (plain-settings l i) k) (sym (plain-table l i) k).horizon (is ++ plain-taken l i k))

call-shows : (l : Load) (name : List ℕ) (i : CallInput) (is : List CallInput) → Sound l → ShowsIn l is
    → ShowsIn (call_spec l name i).load (is ++ taken_call l (call name i))
call-shows l name i is s q = go _ (called l name i)
  where
    go : (r : StepResult) → Called l name i r → ShowsIn r.load (is ++ cond (is_taken r.answer) (i ∷ []) [])
    go _ (without d) = plain-shows l i is s q
    go _ (goes_on d e) =
        let same = closing_same settings_of l i (λ m w. refl) in
        let table = closing_same table_of l i (λ m w. refl) in
        ap table_calls table ∙ plain-shows l i is s q
        ∙ (λ k. windowed (sym same k) (sym table k).horizon (is ++ cond (is_taken (plain_call l i).answer) (i ∷ []) []))
    go _ (stays_out d e) = same-shows l (closed_load l) is refl refl q
    go _ (sent_back d r e) = same-shows l l is refl refl q

pub fill_shows : (l : Load) (x : FillStep) (is : List CallInput) → Sound l → ShowsIn l is → ShowsIn (filled l x).load (is ++ taken_call l x)
fill_shows l (stop id name parent i) is s q =
    same-shows l (stop_spec l id name parent i).load is (fill-settings l (stop id name parent i)) (stop-table l id name parent i) q
fill_shows l (rule i) is s q = same-shows l (rule_spec l i).load is (fill-settings l (rule i)) (rule-table l i) q
fill_shows l (call name i) is s q = call-shows l name i is s q
fill_shows l (service name weekdays start end) is s q =
    same-shows l (service_spec l name weekdays start end).load is (fill-settings l (service name weekdays start end))
    (service-table l name weekdays start end) q
fill_shows l (exception name date kind) is s q =
    same-shows l (exception_spec l name date kind).load is (fill-settings l (exception name date kind)) (exception-table l name date kind) q

filled-sound : (xs : List FillStep) (l : Load) → Sound l → Sound (filled_by l xs)
filled-sound [] l s = s
filled-sound (x ∷ xs) l s = filled-sound xs (filled l x).load (fill-keeps-sound l x s)

filled-settings : (xs : List FillStep) (l : Load) → (filled_by l xs).settings ≡ l.settings
filled-settings [] l = refl
filled-settings (x ∷ xs) l = filled-settings xs (filled l x).load ∙ fill-settings l x

filled-shows : (xs : List FillStep) (l : Load) (old : List CallInput) → Sound l → ShowsIn l old
    → ShowsIn (filled_by l xs) (old ++ taken_calls l xs)
filled-shows [] l old s q = q ∙ ap (windowed l.settings l.table_horizon) (sym (append-nil old))
filled-shows (x ∷ xs) l old s q =
    filled-shows xs (filled l x).load (old ++ taken_call l x) (fill-keeps-sound l x s) (fill_shows l x old s q)
    ∙ ap (windowed (filled_by l (x ∷ xs)).settings (filled_by l (x ∷ xs)).table_horizon)
    (append_assoc old (taken_call l x) (taken_calls (filled l x).load xs))

pub opened-settings : (o : Opening) → (opened o).settings ≡ canonical_of o.settings
unfolding empty_of
opened-settings o = refl

pub opened-shows : (o : Opening) → ShowsIn (opened o) []
unfolding empty_of
opened-shows o = refl

pub table-lemma : TableLemma
table-lemma o xs =
    filled-shows xs (opened o) [] (open-sound o) (opened-shows o)
    ∙ ap (λ (x : Settings). windowed x (filled_by (opened o) xs).table_horizon (taken_calls (opened o) xs))
    (filled-settings xs (opened o) ∙ opened-settings o)

pub one-of-seven : OneOfSeven
one-of-seven o xs = (filled-sound xs (opened o) (open-sound o)).table.known

abbrev horizon_of : Load → ℕ
horizon_of l = l.table_horizon

plain-horizon : (l : Load) (i : CallInput) → (plain_call l i).load.table_horizon ≡ (call_fitted l i).table.horizon
plain-horizon l i = ap (λ (t : Table). t.horizon) (plain-table l i)

pub never-rises : NeverRises
unfolding service_spec exception_spec
never-rises l (stop id name parent i) = omega (arith, ap (λ (t : Table). t.horizon) (stop-table l id name parent i))
never-rises l (rule i) = omega (arith, ap (λ (t : Table). t.horizon) (rule-table l i))
never-rises l (service name weekdays start end) = omega arith
never-rises l (exception name date kind) = omega arith
never-rises l (call name i) = go (call-left horizon_of l name i (λ m w. refl))
  where
    go : ((call_spec l name i).load.table_horizon ≡ (plain_call l i).load.table_horizon)
        ⊎ (((call_spec l name i).load.table_horizon ≡ l.table_horizon) × (is_taken (call_spec l name i).answer ≡ false))
        → (call_spec l name i).load.table_horizon ≤ l.table_horizon
    go (inl q) = omega (arith, q, plain-horizon l i, fall.never-rises l.settings l.searched l.stop_count (table_of l) i)
    go (inr q) = omega (arith, q.0)

pub falls-only-full : FallsOnlyFull
unfolding service_spec exception_spec
falls-only-full l (stop id name parent i) h = absurd (omega (arith, ap (λ (t : Table). t.horizon) (stop-table l id name parent i)))
falls-only-full l (rule i) h = absurd (omega (arith, ap (λ (t : Table). t.horizon) (rule-table l i)))
falls-only-full l (service name weekdays start end) h = absurd (omega arith)
falls-only-full l (exception name date kind) h = absurd (omega arith)
falls-only-full l (call name i) h = (name, i, refl, go (call-left horizon_of l name i (λ m w. refl)))
  where
    go : ((call_spec l name i).load.table_horizon ≡ (plain_call l i).load.table_horizon)
        ⊎ (((call_spec l name i).load.table_horizon ≡ l.table_horizon) × (is_taken (call_spec l name i).answer ≡ false))
        → Meets l.settings (table_of l) i
    go (inl q) = fall.falls-only-full l.settings l.searched l.stop_count (table_of l) i (omega (arith, q, h, plain-horizon l i))
    go (inr q) = absurd (omega (arith, q.0, h))

-- ---- a call that is outside

-- a load with its own table, of one horizon and mark
same-table : (l : Load) → l.horizon ≡ l.table_horizon → l.limits ≡ l.table_limits → with_table l (table_of l) ≡ l
same-table l h m = λ k. record {
  settings = l.settings;
  stops = l.stops;
  stop_count = l.stop_count;
  calls = l.calls;
  call_count = l.call_count;
  rules = l.rules;
  rule_count = l.rule_count;
  journeys = l.journeys;
  journey_count = l.journey_count;
  table_horizon = l.table_horizon;
  table_limits = l.table_limits;
  horizon = sym h k;
  limits = sym m k;
  searched = l.searched;
  limit = l.limit;
  week = l.week;
}

plain-unchanged : (l : Load) (i : CallInput) → Sound l → l.searched ≡ false → window l.settings l.table_horizon i ≡ None
    → (plain_call l i).load ≡ l
unfolding plain_call
plain-unchanged l i w u o = go (is_refused (call_fitted l i).answer)
  where
    go : (b : Bool) → cond b l (with_table l (call_fitted l i).table) ≡ l
    go true = refl
    go false =
        ap (with_table l) (outside-same l.settings l.searched l.stop_count (table_of l) i o)
        ∙ same-table l (w.same_horizon u) (w.same_limits u)

pub outside-unchanged : OutsideUnchanged
outside-unchanged l i w u d name o = ap (λ (r : StepResult). r.load) (sym (call-undated l name i d)) ∙ plain-unchanged l i w u o
