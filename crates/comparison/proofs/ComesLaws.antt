-- What became of a call on a load that is not searched, by what was taken.
use Rattle.refusal.specs.declared.Accepted.TheVariants.{Taken, Outside}
use Rattle.std.specs.Prelude.{Err, Ok}
use Prim.Native.Nat.{ℕ, ◌≤◌}
use mathlib.Core.Path.{◌≡◌, refl, sym, ap, subst, ◌∙◌}
use mathlib.Core.Bool.{Bool, true, false, not, cond, true≢false, false≢true}
use mathlib.Core.List.{List, ◌++◌}
use Rattle.std.specs.Option.{is_some}
use Rattle.refusal.specs.declared.Refusal.{Refusal}
use Rattle.refusal.specs.First.{is_refused, Answer}
use Rattle.settings.specs.declared.Settings.{Settings}
use Rattle.calls.specs.declared.CallInput.{CallInput}
use Rattle.calls.specs.Calls.{known, call_on}
use Rattle.week.specs.declared.Week.{Week}
use Rattle.week.specs.declared.Running.TheVariants.{Runs as Runs·, Rests as Rests·}
use Rattle.week.specs.Weeks.{is_dated, closed_week, running}
use Rattle.week.proofs.SoundLaws.{undated-closed}
use Rattle.week.proofs.StepLaws.{runs-undated}
use Rattle.load.specs.declared.Load.{Load}
use Rattle.load.specs.declared.StepResult.{StepResult}
use Rattle.load.specs.Load.{table_of, with_table, with_week}
use Rattle.load.specs.Steps.{call_fitted, plain_call, is_unknown, is_resting, closed_load, call_spec}
use Rattle.load.specs.FillStep.{FillStep, filled}
use Rattle.load.proofs.SoundLaws.{fill-keeps-sound}
use Rattle.load.proofs.TableLaws.{fill-settings}
use Rattle.load.proofs.StepLaws as calls
use Rattle.steps.proofs.StepLaws.{filled-searched}
use Rattle.comparison.specs.Taken.{calls_in, State}
use Rattle.comparison.specs.Services.{Resting}
use Rattle.comparison.specs.Horizon.{Fits}
use Rattle.comparison.proofs.SettingLaws.{Opened}
use Rattle.comparison.proofs.WeekLaws.{WeekHeld, dec-resting}
use Rattle.comparison.proofs.TakenLaws.{given, fill-held}
use Rattle.comparison.proofs.StartLaws.{Start}
use Rattle.comparison.proofs.HorizonLaws.{call_fits, showing}
use Rattle.comparison.proofs.CallLaws.{day_known}

-- ---- whether its service rests, by what was taken

module _ (w : Week) (fs : List FillStep) (v : WeekHeld w fs) (t : State) (taken : t.taken ≡ fs) (dates : t.dates ≡ w.dates) (name : List ℕ)
    (i : CallInput) where
  pub awake-so : running w name i.day ≡ Runs· → (is_dated w ≡ true → i.day ≤ 2) → Resting t name i.day → ⊥
  awake-so r f ((ds, e), g) = go (is_dated w) refl
    where
      go : (b : Bool) → is_dated w ≡ b → ⊥
      go false d = true≢false (sym (ap is_some (sym dates ∙ e)) ∙ d)
      go true d = false≢true (sym (ap is_resting r) ∙ (dec-resting v t taken dates name i.day (f d) (ap is_unknown r)).1 ((ds, e), g))

  pub rests-so : running w name i.day ≡ Rests· → i.day ≤ 2 → Resting t name i.day
  rests-so r h = (dec-resting v t taken dates name i.day h (ap is_unknown r)).0 (ap is_resting r)

-- ---- by its answer

-- it was answered by the window, which left n
pub record Came (s : Settings) (l : Load) (fs : List FillStep) (name : List ℕ) (i : CallInput) (a : Answer) (n : Load) : Type 0 where
  pub answered : is_refused a ≡ false
  pub runs : running l.week name i.day ≡ Runs·
  pub day : is_dated l.week ≡ true → i.day ≤ 2
  pub fits : Fits s (calls_in fs) i l.table_horizon l.table_limits a n.table_horizon n.table_limits
  pub dates : n.week.dates ≡ l.week.dates
  pub closed : n.week.closed ≡ true
  pub searched : n.searched ≡ l.searched
  pub limit : n.limit ≡ l.limit

pub data Comes (s : Settings) (l : Load) (fs : List FillStep) (name : List ℕ) (i : CallInput) : StepResult → Type 0 where
  came : {a : Answer} {n : Load} → Came s l fs name i a n → Comes s l fs name i (record { answer = a; load = n })
  -- its service doesn't run
  rested : running l.week name i.day ≡ Rests· → i.day ≤ 2 → Comes s l fs name i (record { answer = Ok Outside; load = closed_load l })
  back : {r : Refusal} → Comes s l fs name i (record { answer = Err r; load = l })

module _ (s : Settings) (o : Opened s) (l : Load) (fs : List FillStep) (w : Start s l fs) (name : List ℕ) (i : CallInput) where
  fits-so : is_refused (call_fitted l i).answer ≡ false
      → Fits s (calls_in fs) i l.table_horizon l.table_limits (call_fitted l i).answer (call_fitted l i).table.horizon
      (call_fitted l i).table.limits
  fits-so =
      subst (λ (x : Settings). is_refused (call_on x l.searched l.stop_count (table_of l) i).answer ≡ false
      → Fits s (calls_in fs) i l.table_horizon l.table_limits (call_on x l.searched l.stop_count (table_of l) i).answer
      (call_on x l.searched l.stop_count (table_of l) i).table.horizon (call_on x l.searched l.stop_count (table_of l) i).table.limits)
      (sym w.settings) (call_fits s o (calls_in fs) w.held.days i l.searched l.stop_count (table_of l) (showing s l fs w))

  fits-as : (a : Answer) → (call_fitted l i).answer ≡ a → is_refused a ≡ false
      → Fits s (calls_in fs) i l.table_horizon l.table_limits a (call_fitted l i).table.horizon (call_fitted l i).table.limits
  fits-as a e r = subst (λ (x : Answer). Fits s (calls_in fs) i l.table_horizon l.table_limits x (call_fitted l i).table.horizon
      (call_fitted l i).table.limits) e (fits-so (ap is_refused e ∙ r))

  -- without dates services are closed from the opening, and none is asked for
  shut-so : is_dated l.week ≡ false → l.week.closed ≡ true
  shut-so d = ap (λ (v : Week). v.closed) (w.sound.week.undated d) ∙ undated-closed

  plain : is_dated l.week ≡ false → (a : Answer) → (call_fitted l i).answer ≡ a
      → Comes s l fs name i (record { answer = a; load = cond (is_refused a) l (with_table l (call_fitted l i).table) })
  plain d (Ok Taken) e = came (record {
    answered = refl;
    runs = sym (runs-undated l.week name i.day d);
    day = λ e. absurd (true≢false (sym e ∙ d));
    fits = fits-as (Ok Taken) e refl;
    dates = refl;
    closed = shut-so d;
    searched =
        refl;
    limit = refl;
  })
  plain d (Ok Outside) e = came (record {
    answered = refl;
    runs = sym (runs-undated l.week name i.day d);
    day = λ e. absurd (true≢false (sym e ∙ d));
    fits = fits-as (Ok Outside) e refl;
    dates = refl;
    closed = shut-so d;
    searched =
        refl;
    limit = refl;
  })
  plain d (Err r) e = back

  passes : (known l.stop_count i ≡ true) × (running l.week name i.day ≡ Runs·) → (a : Answer) → (call_fitted l i).answer ≡ a
      → Comes s l fs name i (record {
        answer = a;
        load = cond (is_refused a) l
            (with_week (cond (is_refused a) l (with_table l (call_fitted l i).table)) (closed_week l.week));
      })
  passes g (Ok Taken) e = came (record {
    answered = refl;
    runs = g.1;
    day = λ e. day_known i l.stop_count (ap not g.0);
    fits = fits-as (Ok Taken) e refl;
    dates = refl;
    closed = refl;
    searched = refl;
    limit = refl;
  })
  passes g (Ok Outside) e = came (record {
    answered = refl;
    runs = g.1;
    day = λ e. day_known i l.stop_count (ap not g.0);
    fits = fits-as (Ok Outside) e refl;
    dates = refl;
    closed = refl;
    searched = refl;
    limit = refl;
  })
  passes g (Err r) e = back

  pub comes : Comes s l fs name i (call_spec l name i)
  unfolding plain_call
  comes = by _ (calls.called l name i)
    where
      by : (r : StepResult) → calls.Called l name i r → Comes s l fs name i r
      by _ (calls.without d) = plain d (call_fitted l i).answer refl
      by _ (calls.goes_on d g) = passes (calls.gate-passed l.searched l.stop_count i _ g).1 (call_fitted l i).answer refl
      by _ (calls.stays_out d g) = let v = calls.gate-rests l.searched l.stop_count i _ g in
          rested v.1 (day_known i l.stop_count (ap not v.0))
      by _ (calls.sent_back d r g) = back

-- a load that is not searched goes on holding what was taken, whatever fills it
pub fill_start : (s : Settings) (l : Load) (x : FillStep) (fs : List FillStep) → Start s l fs → Start s (filled l x).load (fs ++ given l x)
fill_start s l x fs w = record {
  sound = fill-keeps-sound l x w.sound;
  settings = fill-settings l x ∙ w.settings;
  held = fill-held l x fs w.sound w.held;
  fresh = filled-searched l x ∙ w.fresh;
}
