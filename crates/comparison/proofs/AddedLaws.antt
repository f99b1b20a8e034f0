-- A call on a searched load: the program's tests decide its causes. u is the unsearched load, which holds what was taken with the calls
-- in order.
use Rattle.refusal.specs.declared.Accepted.TheVariants.{Taken, Outside}
use Rattle.std.specs.Prelude.{Option, Err, Ok}
use Prim.Native.Nat.{ℕ, ◌≤◌}
use mathlib.Core.Path.{◌≡◌, refl, sym, ap, subst, ◌∙◌}
use mathlib.Core.Logic.{◌↔◌}
use mathlib.Core.Bool.{Bool, true, false, not, cond, ◌&&◌, true≢false, false≢true}
use mathlib.Core.List.{List, [], ◌∷◌, ◌++◌, append-nil}
use native.Mathlib.Omega.{arith}
use lib.Dec.{ltb}
use lib.ListN.{length}
use borrow.Author.Tests.{ltb-false, le-ltb}
use Rattle.laws.proofs.Bools.{and-true, and-true-left, and-true-right, of-not}
use Rattle.refusal.specs.declared.Refusal.TheVariants.{FieldRange, NoRoom}
use Rattle.refusal.specs.First.{first_answer, is_taken, is_refused, Answer}
use Rattle.refusal.proofs.FirstLaws.{first-is-answer}
use Rattle.settings.specs.declared.Settings.{Settings}
use Rattle.settings.specs.Settings.{canonical_of}
use Rattle.calls.specs.declared.CallInput.{CallInput}
use Rattle.calls.specs.declared.Call.{Call}
use Rattle.calls.specs.Tried.{Tried}
use Rattle.calls.specs.declared.Table.{Table}
use Rattle.calls.specs.Calls.{known, un_timed, reversed, time_tests, call_time, call_fit}
use Rattle.calls.specs.Tables.{put}
use Rattle.calls.specs.Reached.{reached, reached_tests, call_window}
use Rattle.calls.specs.Windows as windows
use Rattle.calls.specs.Windows.{seen_call}
use Rattle.calls.proofs.ReachedLaws.{fitted-reached}
use Rattle.calls.proofs.FitLaws.{shrinks}
use Rattle.week.specs.Weeks.{running}
use Rattle.load.specs.declared.Load.{Load}
use Rattle.load.specs.declared.StepResult.{StepResult}
use Rattle.load.specs.Load.{table_of, stopped}
use Rattle.load.specs.Steps.{is_unknown, is_resting, running_tests, call_spec}
use Rattle.load.specs.FillStep as fill
use Rattle.load.specs.FillStep.{FillStep, call}
use Rattle.load.proofs.AnswerLaws.{step-answered}
use Rattle.again.specs.Again.{unsearched_of}
use Rattle.again.specs.Causes.{no_room_of, search_tests, again_tests, later_tests, add_causes}
use Rattle.comparison.specs.Taken.{calls_in, State, more, up_to, done}
use Rattle.comparison.specs.Window.{Seen}
use Rattle.comparison.specs.Horizon.{Fits, outside, room, full, cut}
use Rattle.comparison.specs.Causes as causes
use Rattle.comparison.specs.Causes.{Fitting, Unseen, Brings, window_causes, call_causes, cause, again_causes}
use Rattle.comparison.proofs.Deciding.{Decides, Matches, dec-as}
use Rattle.comparison.proofs.OneLaws.{one-fits}
use Rattle.comparison.proofs.SettingLaws.{Opened}
use Rattle.comparison.proofs.StartLaws.{Start, state_at}
use Rattle.comparison.proofs.BagLaws.{fits-perm}
use Rattle.comparison.proofs.AsideLaws.{Like, beside_back, like-more, apart, apart-like, week-beside}
use Rattle.comparison.proofs.TakenLaws.{given}
use Rattle.comparison.proofs.CallLaws.{day_known, two, two_out, Passes, front-match, fitting}
use Rattle.comparison.proofs.ComesLaws.{Came, Comes, came, rested, back, comes, fill_start}
use Rattle.comparison.proofs.SearchingLaws.{again-match}

-- ---- how a call fits

-- the horizon never rises
pub fits_low : {s : Settings} {is : List CallInput} {i : CallInput} {h m g n : ℕ} {x : Answer} → Fits s is i h m x g n → g ≤ h
fits_low (outside f) = omega arith
fits_low (room v w q) = omega arith
fits_low (full v w q r) = omega arith
fits_low {h = h} (cut v w q r k) = omega (arith, fits_low k, shrinks h r)

-- outside with the horizon as it was: nothing was cut
pub fits-unseen : {s : Settings} {is : List CallInput} {i : CallInput} {h m g n : ℕ} {x : Answer} → Fits s is i h m x g n → x ≡ Ok Outside
    → g ≡ h → (c : Call) → Seen s h i c → ⊥
fits-unseen (outside f) e q = f
fits-unseen (room v w l) e q = absurd (cc)
fits-unseen (full v w l r) e q = absurd (cc)
fits-unseen {h = h} (cut v w l r k) e q = absurd (omega (arith, fits_low k, shrinks h r, q))

two-room : (b c : Bool) → Decides (not b && c) (two b c ≡ Err NoRoom)
unfolding first_answer
two-room true c = (λ e. absurd (false≢true e), λ e. absurd (cc))
two-room false true = (λ e. refl, λ e. refl)
two-room false false = (λ e. absurd (false≢true e), λ e. absurd (cc))

two-answered : (b c : Bool) → (not b && c) ≡ false → is_refused (two b c) ≡ false
unfolding first_answer
two-answered true c e = refl
two-answered false true e = absurd (true≢false e)
two-answered false false e = refl

either-height : (b : Bool) (t : Table) (c : Call) → (cond b (put t c) t).horizon ≡ t.horizon
either-height true t c = refl
either-height false t c = refl

-- six tests that fail, and two
past-six : (b1 b2 b3 b4 b5 b6 p q : Bool) (c1 c2 c3 c4 c5 c6 : Answer) → b1 ≡ false → b2 ≡ false → b3 ≡ false → b4 ≡ false → b5 ≡ false
    → b6 ≡ false
    → first_answer ((b1, c1) ∷ (b2, c2) ∷ (b3, c3) ∷ (b4, c4) ∷ (b5, c5) ∷ (b6, c6) ∷ (p, Ok Outside) ∷ (q, Err NoRoom) ∷ []) ≡ two p q
unfolding first_answer
past-six b1 b2 b3 b4 b5 b6 p q c1 c2 c3 c4 c5 c6 e1 e2 e3 e4 e5 e6 = rw (e1, e2, e3, e4, e5, e6) refl

-- l is the searched load
module _ (s : Settings) (o : Opened s) (l u : Load) (gs fs : List FillStep) (w : Start s u gs) (like : Like gs fs)
    (few : stopped l ≡ true → s.max_transfers ≤ 1)
    (name : List ℕ) (i : CallInput) where
  -- its state
  abbrev T : State
  T = done l.limit (state_at u fs)

  abbrev ta : Option ℕ
  ta = call_time (canonical_of s) i i.arrival

  abbrev td : Option ℕ
  td = call_time (canonical_of s) i i.departure

  -- the table that the cuts reach, and what is asked of it
  abbrev r : Table
  r = reached (table_of u) ta td

  abbrev outs : Bool
  outs = windows.outside r.horizon ta td

  abbrev fulls : Bool
  fulls = no_room_of r

  abbrev height : ℕ
  height = (call_fit (canonical_of s) (table_of u) i).table.horizon

  abbrev mark : ℕ
  mark = (call_fit (canonical_of s) (table_of u) i).table.limits

  height-is : height ≡ r.horizon
  unfolding call_fit
  height-is = ap (λ (f : Tried). f.table.horizon) (fitted-reached (table_of u) ta td i)
      ∙ either-height (is_taken (first_answer (reached_tests r ta td))) r (seen_call r.horizon ta td i)

  start-made : Start s (call_spec u name i).load (gs ++ given u (call name i))
  start-made = fill_start s u (call name i) gs w

  abbrev StartAt : StepResult → Type 0
  StartAt x = Start s x.load (gs ++ cond (is_taken x.answer) (call name i ∷ []) [])

  -- the tests of a call, past those that every call meets
  abbrev later : List (Bool × Answer)
  later =
      (outs && not (ltb r.horizon u.table_horizon), Ok Outside)
      ∷ (not outs && fulls, Err NoRoom)
      ∷ search_tests l (call_spec u name i).load ++ ((outs, Ok Outside) ∷ [])

  module _ (p : Passes u.week u.stop_count name i) where
    day : i.day ≤ 2
    day = day_known i u.stop_count p.right

    fitting-so : Fits s (calls_in fs) i u.table_horizon u.table_limits (two outs fulls) height mark
    fitting-so = fits-perm s i like.calls (fitting s u gs w o i p.present day)

    dec-fit : (x : Answer) → (two outs fulls ≡ x) ↔ Fitting s T i x
    dec-fit x = (
      λ e. (height, mark, subst (λ (y : Answer). Fits s (calls_in fs) i u.table_horizon u.table_limits y height mark) e fitting-so),
      λ (h, m, f). (one-fits s (calls_in fs) i u.table_horizon u.table_limits (two outs fulls) x height h mark m fitting-so f).answer,
    )

    -- outside with nothing cut
    dec-unseen : Decides (outs && not (ltb r.horizon u.table_horizon)) (Unseen s T i)
    dec-unseen = (fore, back_to)
      where
        fore : (outs && not (ltb r.horizon u.table_horizon)) ≡ true → Unseen s T i
        fore e =
            let q : two outs fulls ≡ (Ok Outside) = (two_out outs fulls).0 (and-true-left outs _ e) in
            let l : u.table_horizon ≤ r.horizon = ltb-false r.horizon u.table_horizon
            (of-not (ltb r.horizon u.table_horizon) (and-true-right outs _ e)) in
            fits-unseen fitting-so q (omega (arith, l, height-is, fits_low fitting-so))

        back_to : Unseen s T i → (outs && not (ltb r.horizon u.table_horizon)) ≡ true
        back_to f =
            let k = one-fits s (calls_in fs) i u.table_horizon u.table_limits (two outs fulls)
            (Ok Outside) height u.table_horizon mark u.table_limits fitting-so (outside f) in
            and-true outs _ ((two_out outs fulls).1 k.answer)
            (ap not (le-ltb r.horizon u.table_horizon (omega (arith, k.horizon, height-is))))

    -- the call step on the unsearched load answers by the window
    answer-is : (call_spec u name i).answer ≡ two outs fulls
    answer-is =
        first-is-answer _ _ (step-answered u (call name i)).first
        ∙ subst (λ (x : Settings). first_answer (fill.causes u (call name i)) ≡ window_answer x) w.settings
        (past-six u.searched (not (known u.stop_count i)) (is_unknown (running u.week name i.day))
        (is_resting (running u.week name i.day)) (un_timed i) (reversed i) _ _ _ _ _ _ _ _
        w.fresh p.right p.found p.awake p.present p.forward)
      where
        window_answer : Settings → Answer
        window_answer x = first_answer (call_window x (table_of u) i)

    brings-one : (v v' : State) → Brings s T name i v → Brings s T name i v' → v ≡ v'
    brings-one _ _ (causes.taken f) (causes.taken f') =
        let k = one-fits s (calls_in fs) i u.table_horizon u.table_limits _ _ _ _ _ _ f f' in
        λ j. up_to (more T (call name i)) (k.horizon j) (k.mark j)
    brings-one _ _ (causes.cut f) (causes.cut f') =
        let k = one-fits s (calls_in fs) i u.table_horizon u.table_limits _ _ _ _ _ _ f f' in
        λ j. up_to T (k.horizon j) (k.mark j)
    brings-one _ _ (causes.taken f) (causes.cut f') =
        let k = one-fits s (calls_in fs) i u.table_horizon u.table_limits _ _ _ _ _ _ f f' in
        absurd (true≢false (ap is_taken k.answer))
    brings-one _ _ (causes.cut f) (causes.taken f') =
        let k = one-fits s (calls_in fs) i u.table_horizon u.table_limits _ _ _ _ _ _ f f' in
        absurd (false≢true (ap is_taken k.answer))

    -- the search again of what the call brings, and an outside behind it
    abbrev Again : Load → Type 0
    Again n = Matches (search_tests l n ++ ((outs, Ok Outside) ∷ []))
        (again_causes s (Brings s T name i) ++ cause (Fitting s T i (Ok Outside)) (Ok Outside) ∷ [])

    last-match : Matches ((outs, Ok Outside) ∷ []) (cause (Fitting s T i (Ok Outside)) (Ok Outside) ∷ [])
    last-match = let f = dec-fit (Ok Outside) in (refl, dec-as outs f.0 f.1 (two_out outs fulls), λ e. tt)

    again-so : (not outs && fulls) ≡ false → Again (call_spec u name i).load
    again-so f = by (call_spec u name i) refl (comes s o u gs w name i)
      where
        entered : (n : Load) → Came s u gs name i (Ok Taken) n → Start s n (gs ++ call name i ∷ []) → Again n
        entered n c v =
            let there : Brings s T name i (up_to (more T (call name i)) n.table_horizon n.table_limits) =
            causes.taken (fits-perm s i like.calls c.fits) in
            again-match s n (gs ++ call name i ∷ []) (fs ++ call name i ∷ []) v o (like-more gs fs (call name i ∷ []) like) T l refl few
            (Brings s T name i) there (λ x b. brings-one x _ b there)
            ((outs, Ok Outside) ∷ []) (cause (Fitting s T i (Ok Outside)) (Ok Outside) ∷ []) last-match

        only-cut : (n : Load) → Came s u gs name i (Ok Outside) n → Start s n gs → Again n
        only-cut n c v =
            let there : Brings s T name i (up_to T n.table_horizon n.table_limits) = causes.cut (fits-perm s i like.calls c.fits) in
            again-match s n gs fs v o like T l refl few (Brings s T name i) there (λ x b. brings-one x _ b there)
            ((outs, Ok Outside) ∷ []) (cause (Fitting s T i (Ok Outside)) (Ok Outside) ∷ []) last-match

        went : (x : Answer) (n : Load) → Came s u gs name i x n → StartAt (record { answer = x; load = n }) → Again n
        went (Ok Taken) n c v = entered n c v
        went (Ok Outside) n c v = only-cut n c (subst (Start s n) (append-nil gs) v)
        went (Err q) n c v = absurd (true≢false c.answered)

        by : (x : StepResult) → call_spec u name i ≡ x → Comes s u gs name i x → Again x.load
        by _ e (came {a = x} {n = n} c) = went x n c (subst StartAt e start-made)
        by _ e (rested v h) = absurd (true≢false (sym (ap is_resting v) ∙ p.awake))
        by _ e back = absurd (true≢false (sym (ap (λ (x : StepResult). is_refused x.answer) e) ∙ ap is_refused answer-is
            ∙ two-answered outs fulls f))

    window-again : Matches later (window_causes true s T name i)
    window-again = let f = dec-fit (Err NoRoom) in
        (refl, dec-unseen, λ e. (refl, dec-as (not outs && fulls) f.0 f.1 (two-room outs fulls), λ q. again-so q))

  again-front : Matches ((not (known u.stop_count i), Err FieldRange) ∷ running_tests (running u.week name i.day) ++ time_tests i
      ++ later) (call_causes s T name i)
  again-front =
      front-match T u.week u.stop_count (week-beside u.week fs gs (beside_back like.beside) w.held.week) refl
      (w.held.stops ∙ ap length like.beside.stops) name i
      later (window_causes true s T name i) window-again

-- of the searched load itself
module _ (s : Settings) (o : Opened s) (l : Load) (fs : List FillStep) (e : l.searched ≡ true)
    (w : Start s (unsearched_of l) (apart fs)) where
  -- what it was given is what its unsearched load was, and that a search was taken
  pub state-done : state_at l fs ≡ done l.limit (state_at (unsearched_of l) fs)
  unfolding unsearched_of
  state-done = λ k. record {
    taken = fs;
    horizon = l.table_horizon;
    limits = l.table_limits;
    searched = e k;
    stopped = l.limit;
    dates = l.week.dates;
    closed = l.week.closed;
  }

  pub added-match : (stopped l ≡ true → s.max_transfers ≤ 1) → (name : List ℕ) (i : CallInput)
      → Matches (add_causes l name i) (call_causes s (state_at l fs) name i)
  unfolding unsearched_of
  added-match few name i =
      subst (λ (t : State). Matches (add_causes l name i) (call_causes s t name i)) (sym state-done)
      (subst (λ (b : Bool). Matches ((not (known l.stop_count i), Err FieldRange) ∷ running_tests (running l.week name i.day)
      ++ time_tests i ++ later_tests b l name i) (call_causes s (done l.limit (state_at (unsearched_of l) fs)) name i)) (sym e)
      (subst (λ (x : Settings). Matches ((not (known l.stop_count i), Err FieldRange) ∷ running_tests (running l.week name i.day)
      ++ time_tests i
      ++ again_tests l (call_time x i i.arrival) (call_time x i i.departure)
      (reached (table_of l) (call_time x i i.arrival) (call_time x i i.departure)) (call_spec (unsearched_of l) name i).load)
      (call_causes s (done l.limit (state_at (unsearched_of l) fs)) name i)) (sym w.settings)
      (again-front s o l (unsearched_of l) (apart fs) fs w (apart-like fs) few name i)))
