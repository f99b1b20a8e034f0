-- A call on a searched load: what it leaves holds what was taken.
use Rattle.refusal.specs.declared.Accepted.TheVariants.{Taken, Outside}
use Rattle.std.specs.Prelude.{Err, Ok}
use Prim.Native.Nat.{ℕ, ◌≤◌}
use mathlib.Core.Path.{◌≡◌, refl, sym, ap, subst, ◌∙◌}
use mathlib.Core.Bool.{Bool, true, false, cond, true≢false}
use mathlib.Core.List.Permᴰ
use mathlib.Core.List.{List, [], ◌∷◌, ◌++◌, append-nil, Memᴰ}
use lib.Dec.{eqb}
use borrow.Author.Tests.{eqb-true, eq-eqb}
use Rattle.laws.proofs.Sort.{perm-mem}
use Rattle.refusal.specs.declared.Refusal.{Refusal}
use Rattle.refusal.specs.First.{is_taken, Answer}
use Rattle.settings.specs.declared.Settings.{Settings}
use Rattle.calls.specs.declared.CallInput.{CallInput}
use Rattle.calls.specs.Shown.{windowed}
use Rattle.week.specs.declared.Week.{Week}
use Rattle.week.specs.Sound.{WeekSound}
use Rattle.week.proofs.SoundLaws.{closed-sound}
use Rattle.offers.specs.Order.{in_order_of}
use Rattle.load.specs.declared.Load.{Load}
use Rattle.load.specs.declared.StepResult.{StepResult}
use Rattle.load.specs.Load.{with_week, stopped}
use Rattle.load.specs.Steps.{closed_load, call_spec}
use Rattle.load.specs.FillStep.{FillStep, call}
use Rattle.load.proofs.SoundLaws.{with-week-sound}
use Rattle.again.specs.Again.{unsearched_of, researched, again, added_to, add_spec_of}
use Rattle.again.specs.Claims.{Kept}
use Rattle.again.proofs.SoundLaws.{unsearched-sound}
use Rattle.steps.specs.Steps.{filling}
use Rattle.steps.proofs.ShownLaws.{raw_earlier, shown-more}
use Rattle.comparison.specs.Taken.{calls_in, State, keeping, up_to, shut, done}
use Rattle.comparison.specs.Services.{Resting}
use Rattle.comparison.specs.Horizon as fits
use Rattle.comparison.specs.Horizon.{Fits}
use Rattle.comparison.specs.Runs.{Again, After, a_call, resting, outside}
use Rattle.comparison.proofs.NthLaws.{calls-append}
use Rattle.comparison.proofs.SettingLaws.{Opened}
use Rattle.comparison.proofs.WeekLaws.{WeekHeld}
use Rattle.comparison.proofs.TakenLaws.{week-closed}
use Rattle.comparison.proofs.StartLaws.{Start, state_at}
use Rattle.comparison.proofs.BagLaws.{fits-perm}
use Rattle.comparison.proofs.AsideLaws.{beside_back, beside-more, like-more, apart, apart-calls, apart-like, week-beside}
use Rattle.comparison.proofs.ComesLaws.{awake-so, rests-so, Came, Comes, came, rested, back, comes, fill_start}
use Rattle.comparison.proofs.SearchingLaws.{untaken-refused, found-searched, found-state, again-so}
use Rattle.comparison.proofs.SearchedLaws.{apart-again, searched-start, Leaves, stays-so, same-leaves}
use Rattle.comparison.proofs.AddedLaws.{fits-unseen, state-done}

module _ (s : Settings) (o : Opened s) (l : Load) (fs : List FillStep) (d : l.searched ≡ true) (kept : Kept l)
    (w : Start s (unsearched_of l) (apart fs))
    (days : (j : CallInput) → Memᴰ j (calls_in fs) → j.day ≤ 2) (few : stopped l ≡ true → s.max_transfers ≤ 1) (name : List ℕ)
    (i : CallInput) where
  abbrev u : Load
  u = unsearched_of l

  abbrev gs : List FillStep
  gs = apart fs

  abbrev x : FillStep
  x = call name i

  abbrev T : State
  T = done l.limit (state_at u fs)

  -- searched again
  abbrev once : Load → StepResult
  once n = researched l.limit n

  -- the week holds what was taken, in the order taken too
  week-so : WeekHeld u.week fs
  week-so = week-beside u.week fs gs (beside_back (apart-like fs).beside) w.held.week

  awake : {a : Answer} {n : Load} → Came s u gs name i a n → Resting T name i.day → ⊥
  awake c = awake-so u.week fs week-so T refl refl name i c.runs c.day

  fits-here : {a : Answer} {n : Load} → Came s u gs name i a n
      → Fits s (calls_in fs) i u.table_horizon u.table_limits a n.table_horizon n.table_limits
  fits-here c = fits-perm s i (apart-like fs).calls c.fits

  -- by the state of the unsearched load
  from-done : (a : Answer) (v : State) → After s T (filling x) a v → After s (state_at l fs) (filling x) a v
  from-done a v = subst (λ (t : State). After s t (filling x) a v) (sym (state-done s o l fs d w))

  -- the load with another week
  week-start : (v : Week) → WeekSound v → WeekHeld v gs → Start s (unsearched_of (with_week l v)) gs
  unfolding unsearched_of
  week-start v sv h = record {
    sound = unsearched-sound (with_week l v) (with-week-sound l v kept.sound sv);
    settings = w.settings;
    held = record { calls = w.held.calls; days = w.held.days; rules = w.held.rules; stops = w.held.stops; each = w.held.each; week = h };
    fresh = refl;
  }

  abbrev LeftBy : StepResult → Type 0
  LeftBy r = Leaves s l fs (filling x) r.answer r.load (fs ++ cond (is_taken r.answer) (x ∷ []) [])

  stays : (r : Refusal) → LeftBy (record { answer = Err r; load = l })
  stays r = same-leaves s l fs (filling x) (Err r) l (stays-so s l fs (filling x) r d w)

  refused-so : (n : Load) → n.searched ≡ false → is_taken (once n).answer ≡ false → LeftBy (record { answer = (once n).answer; load = l })
  refused-so n new t = untaken-refused l.limit n new (λ a. LeftBy (record { answer = a; load = l })) stays t

  -- n is searched again
  module _ (n : Load) (t : is_taken (once n).answer ≡ true) where
    found_at : (hs : List FillStep) → n.week.dates ≡ u.week.dates → n.week.closed ≡ true
        → state_at (once n).load hs ≡ shut (done ((once n).load.limit) (up_to (keeping T hs) n.table_horizon n.table_limits))
    found_at hs e c =
        found-state l.limit n t hs
        ∙ (λ j. record {
          taken = hs;
          horizon = n.table_horizon;
          limits = n.table_limits;
          searched = true;
          stopped = (once n).load.limit;
          dates = e j;
          closed = c j;
        })

  entered : (n : Load) → Came s u gs name i (Ok Taken) n → Start s n (gs ++ x ∷ []) → is_taken (once n).answer ≡ true
      → LeftBy (record { answer = Ok Taken; load = (once n).load })
  entered n c v t = record {
    after = from-done (Ok Taken) _ (subst (After s T (filling x) (Ok Taken)) (sym (found_at n t (fs ++ x ∷ []) c.dates c.closed))
        (a_call (fits-here c) (again-so s n (gs ++ x ∷ []) (fs ++ x ∷ []) v o (like-more gs fs (x ∷ []) (apart-like fs))
        (state_at u fs) l.limit few t)));
    searched = found-searched l.limit n t;
    start = searched-start s n (gs ++ x ∷ []) (fs ++ x ∷ []) v (beside-more gs fs (x ∷ []) (apart-like fs).beside) new-days same l.limit t;
  }
    where
      new-days : (j : CallInput) → Memᴰ j (calls_in (fs ++ x ∷ [])) → j.day ≤ 2
      new-days j m = v.held.days j (perm-mem raw_earlier (Permᴰ.symm (like-more gs fs (x ∷ []) (apart-like fs)).calls) m)

      same : in_order_of (windowed n.settings n.table_horizon (calls_in (gs ++ x ∷ [])))
          ≡ in_order_of (windowed n.settings n.table_horizon (calls_in (fs ++ x ∷ [])))
      same =
          ap (λ (is : List CallInput). in_order_of (windowed n.settings n.table_horizon is))
          (calls-append gs (x ∷ []) ∙ ap (λ (is : List CallInput). is ++ i ∷ []) (apart-calls fs))
          ∙ shown-more n.settings n.table_horizon (calls_in fs) (i ∷ [])
          ∙ ap (λ (is : List CallInput). in_order_of (windowed n.settings n.table_horizon is)) (sym (calls-append fs (x ∷ [])))

  -- outside after a cut
  cut-so : (n : Load) → Came s u gs name i (Ok Outside) n → Start s n gs → is_taken (once n).answer ≡ true
      → LeftBy (record { answer = Ok Outside; load = (once n).load })
  cut-so n c v t = same-leaves s l fs (filling x) (Ok Outside) (once n).load (record {
    after = from-done (Ok Outside) _ (subst (After s T (filling x) (Ok Outside)) (sym (found_at n t fs c.dates c.closed))
        (outside (awake c) (fits-here c) (again-so s n gs fs v o (apart-like fs) (state_at u fs) l.limit few t)));
    searched = found-searched l.limit n t;
    start = searched-start s n gs fs v (apart-like fs).beside days (apart-again n.settings n.table_horizon fs) l.limit t;
  })

  -- outside with nothing cut: the load stays, its services closed
  same-height : u.table_horizon ≡ l.table_horizon
  unfolding unsearched_of
  same-height = refl

  week-at : (v : Week) → v.dates ≡ u.week.dates → v.closed ≡ true → state_at (with_week l v) fs ≡ shut T
  unfolding unsearched_of
  week-at v e c = λ j. record {
    taken = fs;
    horizon = l.table_horizon;
    limits = l.table_limits;
    searched = d j;
    stopped = l.limit;
    dates = e j;
    closed = c j;
  }

  -- and is still the search of its own table, within its limit if it has one
  own-again : Again s T T
  own-again =
      let q = kept.own d in
      let t : is_taken (once u).answer ≡ true = ap (λ (r : StepResult). is_taken r.answer) q in
      subst (λ (r : StepResult). Again s T (done (r.load.limit) T)) q (again-so s u gs fs w o (apart-like fs) (state_at u fs) l.limit few t)

  uncut-so : (n : Load) → Came s u gs name i (Ok Outside) n → Start s n gs → n.table_horizon ≡ l.table_horizon
      → LeftBy (record { answer = Ok Outside; load = with_week l n.week })
  uncut-so n c v e = same-leaves s l fs (filling x) (Ok Outside) (with_week l n.week) (record {
    after = from-done (Ok Outside) _ (subst (After s T (filling x) (Ok Outside)) (sym (week-at n.week c.dates c.closed))
        (outside (awake c) (fits.outside (fits-unseen (fits-here c) refl (e ∙ sym same-height))) own-again));
    searched = d;
    start = week-start n.week v.sound.week v.held.week;
  })

  -- its service doesn't run
  rested-so : Resting T name i.day → LeftBy (record { answer = Ok Outside; load = with_week l (closed_load u).week })
  rested-so v = same-leaves s l fs (filling x) (Ok Outside) (with_week l (closed_load u).week) (record {
    after = from-done (Ok Outside) _ (subst (After s T (filling x) (Ok Outside)) (sym (week-at (closed_load u).week refl refl))
        (resting v));
    searched = d;
    start = week-start (closed_load u).week (closed-sound u.week w.sound.week) (week-closed u.week gs w.held.week);
  })

  -- sent back
  back-so : (r : Refusal) → LeftBy (record { answer = Err r; load = with_week l u.week })
  unfolding unsearched_of
  back-so r = stays r

  abbrev StartAt : StepResult → Type 0
  StartAt r = Start s r.load (gs ++ cond (is_taken r.answer) (x ∷ []) [])

  went : (a : Answer) (n : Load) → Came s u gs name i a n → StartAt (record { answer = a; load = n })
      → LeftBy (added_to l (record { answer = a; load = n }))
  unfolding added_to again
  went (Ok Taken) n c v = go (is_taken (once n).answer) refl
    where
      go : (b : Bool) → is_taken (once n).answer ≡ b
          → LeftBy (cond {A = StepResult} b (record { answer = Ok Taken; load = (once n).load })
          (record { answer = (once n).answer; load = l }))
      go true t = entered n c v t
      go false t = refused-so n v.fresh t
  went (Ok Outside) n c v = go (eqb n.table_horizon l.table_horizon) refl (is_taken (once n).answer) refl
    where
      at : Start s n gs
      at = subst (Start s n) (append-nil gs) v

      go : (b : Bool) → eqb n.table_horizon l.table_horizon ≡ b → (e : Bool) → is_taken (once n).answer ≡ e
          → LeftBy (cond {A = StepResult} b (record { answer = Ok Outside; load = with_week l n.week })
          (cond {A = StepResult} e (record { answer = Ok Outside; load = (once n).load }) (record { answer = (once n).answer; load = l })))
      go true q e t = uncut-so n c at (eqb-true n.table_horizon l.table_horizon q)
      go false q true t = cut-so n c at t
      go false q false t = refused-so n at.fresh t
  went (Err r) n c v = absurd (true≢false c.answered)

  added-so : LeftBy (added_to l (call_spec u name i))
  unfolding added_to again
  added-so = by (call_spec u name i) refl (comes s o u gs w name i)
    where
      -- the table is as it was
      leaves_table : eqb u.table_horizon l.table_horizon ≡ true
      leaves_table = eq-eqb u.table_horizon l.table_horizon same-height

      by : (r : StepResult) → call_spec u name i ≡ r → Comes s u gs name i r → LeftBy (added_to l r)
      by _ e (came {a = a} {n = n} c) = went a n c (subst StartAt e (fill_start s u x gs w))
      by _ e (rested v h) =
          subst (λ (b : Bool). LeftBy (cond {A = StepResult} b (record { answer = Ok Outside; load = with_week l (closed_load u).week })
          (again l (record { answer = Ok Outside; load = closed_load u })))) (sym leaves_table)
          (rested-so (rests-so u.week fs week-so T refl refl name i v h))
      by _ e (back {r = r}) =
          subst (λ (b : Bool). LeftBy (cond {A = StepResult} b (record { answer = Err r; load = with_week l u.week })
          (again l (record { answer = Err r; load = u })))) (sym leaves_table) (back-so r)

  pub added-leaves : Leaves s l fs (filling (call name i)) (add_spec_of l name i).answer (add_spec_of l name i).load
      (fs ++ cond (is_taken (add_spec_of l name i).answer) (call name i ∷ []) [])
  unfolding add_spec_of
  added-leaves = subst (λ (b : Bool). LeftBy (cond b (added_to l (call_spec u name i)) (call_spec l name i))) (sym d) added-so
